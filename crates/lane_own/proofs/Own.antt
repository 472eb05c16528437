-- What a lane of the tables gives is the gear of its vehicle, and second by second the lanes become the rows before corrections. Assumes nothing.
use mathlib.Core.Path.{◌≡◌, refl, sym, ap, ◌∙◌}
use mathlib.Core.Bool.{Bool, true, false, cond}
use mathlib.Core.List.{List}
use Prim.Native.Nat.{ℕ, ◌+◌, ◌-◌, ◌*◌, ◌<◌, ◌≤◌}
use native.Mathlib.Decide.{dec_lt}
use native.Mathlib.Omega.{arith}
use lib.Dec.{leb, ltb}
use lib.ListN.{length}
use Rattle.house.specs.House.{flags_at, speed_at, acceleration}
use Rattle.shift.proofs.Counting.{count_same}
use Rattle.tenths.specs.declared.Tenths.{Tenths}
use Rattle.tenths.specs.Choice.{reached, held, own_by_tenths}
use Rattle.phase.specs.Phase.{stop_end, gear_by, first_gear}
use Rattle.phase.proofs.Stops.{first-at}
use Rattle.row.specs.Row.{gear_at}
use Rattle.lanes.specs.Lanes.{lane_at, line_by}
use Rattle.lanes.proofs.Lanes.{line-length, line_other, line_at}
use Rattle.lane_own.specs.Own.{reached_lane, own_lane, TableOf, first_by_tenths, FirstRows}

module _ (t : Tenths) (tables : List ℕ) (j : ℕ) (table : TableOf t tables j) (speed : ℕ) where
  reached-same : reached_lane tables speed j 7 ≡ reached t.above speed 7
  unfolding reached
  reached-same = count_same _ _ 7 (λ i l. ap (λ (least : ℕ). leb least speed) (table.above i l))

  pub own_same : (accelerates : Bool) → own_lane tables accelerates speed j ≡ (own_by_tenths t accelerates speed).gear
  unfolding own_lane own_by_tenths held
  own_same true = ap (λ (n : ℕ). n + 1) reached-same
  own_same false =
      let last = table.last in
      let first = table.first in
      (λ i. cond (ltb speed (first i)) 1 (reached-same i - cond (leb (last i) speed) 1 0 + 2))

-- when k seconds are put
pub record Put (trace tables lanes₀ : List ℕ) (n : ℕ) (lanes : List ℕ) (k : ℕ) : Type 0 where
  pub long : length lanes ≡ length lanes₀
  pub lane : (j : ℕ) → j < 16 → (t : Tenths) → TableOf t tables j → (i : ℕ) → i < k → lane_at lanes j i ≡ gear_at (first_by_tenths t trace n) i

module _ (trace tables lanes₀ : List ℕ) (n : ℕ) where
  pub put-none : Put trace tables lanes₀ n lanes₀ 0
  put-none = record { long = refl; lane = λ j l t table i h. absurd (let z : ⊥ = omega arith in z) }

  module _ (lanes : List ℕ) (k : ℕ) (l : k < n) (room : 16 * n ≤ length lanes₀) (p : Put trace tables lanes₀ n lanes k) where
    abbrev lanes' : List ℕ
    lanes' = line_by (λ m j. gear_by (flags_at trace k) (own_lane tables (acceleration (flags_at trace k)) (speed_at trace k) j) (stop_end trace n k - k)) k lanes 16

    here : (j : ℕ) → j < 16 → (t : Tenths) → TableOf t tables j → lane_at lanes' j k ≡ gear_at (first_by_tenths t trace n) k
    unfolding first_gear
    here j few t table =
        let long = p.long in
        line_at _ k lanes (omega arith) j few (λ m same. refl)
        ∙ ap (λ (own : ℕ). gear_by (flags_at trace k) own (stop_end trace n k - k)) (own_same t tables j table (speed_at trace k) (acceleration (flags_at trace k)))
        ∙ sym (first-at _ trace n k l)

    to : (j : ℕ) → j < 16 → (t : Tenths) → TableOf t tables j → (i : ℕ) → i < k + 1 → Dec (i < k) → lane_at lanes' j i ≡ gear_at (first_by_tenths t trace n) i
    to j few t table i h (yes below) = line_other _ k lanes j i few (λ e. omega arith) ∙ p.lane j few t table i below
    to j few t table i h (no above) =
        let same : i ≡ k = omega arith in
        ap (lane_at lanes' j) same ∙ here j few t table ∙ ap (gear_at (first_by_tenths t trace n)) (sym same)

    pub put_next : Put trace tables lanes₀ n lanes' (k + 1)
    put_next = record { long = line-length _ k lanes 16 ∙ p.long; lane = λ j few t table i h. to j few t table i h (dec_lt i k) }

  pub put_all : (lanes : List ℕ) (k : ℕ) → k ≡ n → Put trace tables lanes₀ n lanes k → FirstRows trace tables lanes₀ lanes n
  put_all lanes k all p = record { long = p.long; lane = λ j few t table i h. p.lane j few t table i (omega arith) }
