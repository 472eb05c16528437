-- The gears and refusal 9 by tenths are those by the ends, for every second of an accepted trace. Assumes nothing.
use mathlib.Core.Path.{◌≡◌, refl, sym, ap, ◌∙◌}
use mathlib.Core.Bool.{Bool, true, false, not, cond}
use mathlib.Core.List.{List}
use Prim.Native.Nat.{ℕ, ◌≤◌, ◌<◌}
use native.Mathlib.Omega.{arith}
use lib.ListN.{set}
use Rattle.std.specs.Prelude.{Ok}
use Rattle.refusal.specs.Judging.{Judged, if_accepted}
use Rattle.walk.proofs.Same.{in_turn-same, scan-same, scan_good}
use Rattle.house.specs.House.{flags_at, speed_at, stop, acceleration, good_in}
use Rattle.house.proofs.Versions.{good-second}
use Rattle.vehicle.specs.declared.VehicleSheet.{VehicleSheet}
use Rattle.vehicle.specs.Sheet.{Sound}
use Rattle.shift.specs.declared.Shift.{Shift}
use Rattle.shift.specs.Speeds.{shift_of, Own}
use Rattle.shift.proofs.Sides.{vehicle-worked}
use Rattle.tenths.specs.declared.Tenths.{Tenths}
use Rattle.tenths.specs.Least.{tenths_of}
use Rattle.tenths.specs.Choice.{own_by_tenths, marked}
use Rattle.tenths.proofs.Choosing.{own-by-tenths, never-close}
use Rattle.tenths.proofs.Marks.{in_order_lem}
use Rattle.own.specs.Own.{own_second, own_at, judge_own, judge_close, put_gears, put_own, gears_after, Ready}
use Rattle.own.specs.ByTenths.{second_by_tenths, second_at, judge_marked}

module _ {v : VehicleSheet} (sound : Sound v) where
  abbrev t : Tenths
  t = tenths_of (shift_of v)

  pub second-by-tenths : (flags speed : ℕ) → speed ≤ 2000 → second_by_tenths t flags speed ≡ own_second (shift_of v) flags speed
  unfolding second_by_tenths own_second
  second-by-tenths flags speed few =
      ap (λ (own : Own). cond (stop flags) (record { gear = 0; close = false }) own)
      (own-by-tenths (vehicle-worked sound) speed few (in_order_lem sound) (acceleration flags))

  -- so a second that 4 takes
  pub good-by-tenths : (version flags speed fourth : ℕ) → good_in version speed flags fourth ≡ true → second_by_tenths t flags speed ≡ own_second (shift_of v) flags speed
  good-by-tenths version flags speed fourth good = second-by-tenths flags speed (good-second version speed flags fourth good).0

  module _ (trace : List ℕ) (n : ℕ) (ready : Ready (shift_of v) trace n) where
    second-same : (k : ℕ) → k < n → second_at t trace k ≡ own_at (shift_of v) trace k
    second-same k l = second-by-tenths (flags_at trace k) (speed_at trace k) (ready.speeds k l)

    pub put_same : (own : List ℕ) → put_gears (second_at t trace) own n ≡ put_own (shift_of v) trace own n
    put_same own = in_turn-same _ _ own n (λ gears k l. ap (λ (o : Own). set gears k o.gear) (second-same k l))

    judge-same : judge_own (second_at t trace) 0 n ≡ judge_close (shift_of v) trace 0 n
    judge-same = scan-same _ _ _ _ 0 n (λ k l. ap (λ (o : Own). not o.close) (second-same k (omega arith)))

    second-called : marked t ≡ false → (k : ℕ) → k < n → (second_at t trace k).close ≡ false
    unfolding second_by_tenths
    second-called unmarked k l = go (stop (flags_at trace k))
      where
        go : (stops : Bool) → (cond stops (record { gear = 0; close = false }) (own_by_tenths t (acceleration (flags_at trace k)) (speed_at trace k))).close ≡ false
        go true = refl
        go false = never-close (vehicle-worked sound) (speed_at trace k) (ready.speeds k l) (in_order_lem sound) unmarked (acceleration (flags_at trace k))

    pub marked-same : judge_marked t trace n ≡ judge_close (shift_of v) trace 0 n
    unfolding judge_marked
    marked-same = go (marked t) (λ e. e)
      where
        go : (m : Bool) → (m ≡ false → marked t ≡ false) → cond m (judge_own (second_at t trace) 0 n) (Ok tt) ≡ judge_close (shift_of v) trace 0 n
        go true back = judge-same
        go false back = sym (scan_good _ _ _ 0 n (λ k l. ap not (second-called (back refl) k (omega arith)))) ∙ judge-same

-- the list that the comparisons leave, where all are called
pub called-gears : (s : Shift) (trace own : List ℕ) (n : ℕ) → judge_close s trace 0 n ≡ Ok tt → gears_after s trace own n ≡ put_own s trace own n
unfolding gears_after
called-gears s trace own n e = ap (λ (j : Judged). if_accepted j (put_own s trace own n) own) e
