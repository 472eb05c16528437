-- The row and refusal 9 see of a trace its flags and speeds alone. Assumes nothing.
use mathlib.Core.Path.{◌≡◌, refl, ap, ◌∙◌}
use mathlib.Core.Bool.{not}
use mathlib.Core.List.{List}
use Prim.Native.Nat.{ℕ, ◌-◌}
use Rattle.walk.proofs.Same.{scan-same}
use Rattle.walk.proofs.Pairs.{pairs-both}
use Rattle.house.specs.House.{flags_at, speed_at, stop, stop_at}
use Rattle.vehicle.specs.declared.VehicleSheet.{VehicleSheet}
use Rattle.shift.specs.Speeds.{shift_of}
use Rattle.phase.specs.Phase.{stop_end, gear_by, first_gear, first_row}
use Rattle.runs.specs.Corrected.{corrected}
use Rattle.runs.proofs.Alike.{corrected-alike}
use Rattle.clutch.specs.Clutch.{clutch_of, clutch_by, with_clutch}
use Rattle.own.specs.Own.{own_second, own_at, judge_close}
use Rattle.gear.specs.Sheet.{own_of, row_of}

-- two traces with the same seconds
pub record Alike (t u : List ℕ) : Type 0 where
  pub flags : (k : ℕ) → flags_at t k ≡ flags_at u k
  pub speeds : (k : ℕ) → speed_at t k ≡ speed_at u k

module _ {t u : List ℕ} (same : Alike t u) (v : VehicleSheet) (n : ℕ) where
  stops-alike : (k : ℕ) → stop_end t n k ≡ stop_end u n k
  stops-alike k = scan-same (λ i. i) (λ i. i) (stop_at t) (stop_at u) k (n - k) (λ j l. (λ i. stop (same.flags j i)))

  first_alike : first_row (own_of v t) t n ≡ first_row (own_of v u) u n
  unfolding first_row first_gear
  first_alike =
      pairs-both _ _ (λ k. 0) (λ k. 0) n
      (λ k l. (λ i. gear_by (same.flags k i) (own_second (shift_of v) (same.flags k i) (same.speeds k i)).gear (stops-alike k i - k)))
      (λ k l. refl)

  pub row-alike : row_of v t n ≡ row_of v u n
  unfolding row_of
  row-alike =
      (λ i. with_clutch (λ k gear. clutch_of v (same.flags k i) (same.speeds k i) gear) (corrected t (first_alike i) n) n)
      ∙ ap (λ (row : List ℕ). with_clutch (clutch_by v u) row n) (corrected-alike t u same.flags (first_row (own_of v u) u n) n)

  pub close-alike : judge_close (shift_of v) t 0 n ≡ judge_close (shift_of v) u 0 n
  close-alike =
      scan-same _ _ (λ k. not (own_at (shift_of v) t k).close) (λ k. not (own_at (shift_of v) u k).close) 0 n
      (λ j l. (λ i. not (own_second (shift_of v) (same.flags j i) (same.speeds j i)).close))
