-- On a trace that is not refused, the row by exact comparison from any e between the two ends is the core's: the row sees the gears alone. Assumes nothing.
use mathlib.Core.Path.{◌≡◌, sym, ap, ◌∙◌}
use mathlib.Core.Bool.{Bool, false, not, cond}
use mathlib.Core.List.{List}
use Prim.Native.Nat.{ℕ, ◌<◌}
use borrow.Author.Tests.{not-true}
use Rattle.arith.specs.Fraction.{Fraction}
use Rattle.std.specs.Prelude.{Ok}
use Rattle.refusal.proofs.Judging.{refused-not}
use Rattle.walk.proofs.Walk.{all-good}
use Rattle.house.specs.House.{count_of, speed_at, flags_at, stop, acceleration}
use Rattle.vehicle.specs.declared.VehicleSheet.{VehicleSheet}
use Rattle.vehicle.specs.Sheet.{Sound}
use Rattle.shift.specs.declared.Shift.{Shift}
use Rattle.shift.specs.Speeds.{shift_of, own_gear, Own}
use Rattle.own.specs.Own.{own_second, own_at, judge_close}
use Rattle.gear.specs.Sheet.{own_of, row_of}
use Rattle.gear.proofs.Rows.{row_same}
use Rattle.sums.specs.Rows.{exact_gear, exact_row}
use Rattle.sums.specs.Statements.{BetweenEnds}
use Rattle.sums.proofs.Seconds.{gear-same}

-- outside a stop a second has the gear of its speed
outside-stop : (s : Shift) (flags speed : ℕ) → stop flags ≡ false → own_second s flags speed ≡ own_gear s (acceleration flags) speed
unfolding own_second
outside-stop s flags speed e = ap (λ (stops : Bool). cond stops (record { gear = 0; close = false }) (own_gear s (acceleration flags) speed)) e

module _ {v : VehicleSheet} (sound : Sound v) (trace : List ℕ) (called : judge_close (shift_of v) trace 0 (count_of trace) ≡ Ok tt) where
  second-called : (k : ℕ) → k < count_of trace → (own_at (shift_of v) trace k).close ≡ false
  second-called k l = not-true _ (all-good (λ k. not (own_at (shift_of v) trace k).close) _ _ (Ok tt) (λ k. refused-not) (count_of trace) called k l)

  pub row-exactly : (e : Fraction) → BetweenEnds v e → row_of v trace (count_of trace) ≡ exact_row v e trace
  unfolding row_of exact_row
  row-exactly e between =
      row_same (own_of v trace) (λ k. exact_gear v e (acceleration (flags_at trace k)) (speed_at trace k)) trace (count_of trace)
      (λ k l outside.
      let own = outside-stop (shift_of v) (flags_at trace k) (speed_at trace k) outside in
      let here = sym (ap (λ (o : Own). o.close) own) ∙ second-called k l in
      ap (λ (o : Own). o.gear) own ∙ gear-same sound e between (speed_at trace k) (acceleration (flags_at trace k)) here)
      v
