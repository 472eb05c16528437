-- From any e between the two ends, the gear of a second by exact comparison is the core's where no comparison is too close, under both rule sets. Assumes nothing.
use mathlib.Core.Path.{◌≡◌, sym, ap, ◌∙◌}
use mathlib.Core.Bool.{Bool, true, false, cond}
use Prim.Native.Nat.{ℕ, suc, ◌+◌, ◌-◌}
use native.Mathlib.Omega.{arith}
use lib.Dec.{eqb, ltb}
use lib.ListN.{get_or}
use borrow.Author.Tests.{ltb-false}
use Rattle.arith.specs.Fraction.{Fraction}
use Rattle.vehicle.specs.declared.VehicleSheet.{VehicleSheet}
use Rattle.vehicle.specs.Sheet.{Sound}
use Rattle.shift.specs.Speeds.{first_side, higher_side, shift_of, above_at, close_at, count, tally_of, by_set1, below_second, by_set2, own_gear}
use Rattle.shift.specs.Exact.{exact_upshift, exact_speed, less}
use Rattle.shift.specs.Cruise.{downshift}
use Rattle.shift.proofs.Counting.{count_same}
use Rattle.shift.proofs.Cruise.{same-speed, upshift-is, second-exactly}
use Rattle.tenths.proofs.Counting.{none-holds}
use Rattle.sums.specs.Rows.{passed, exact_by_set1, exact_by_set2, exact_gear}
use Rattle.sums.specs.Statements.{BetweenEnds}
use Rattle.sums.proofs.Comparing.{agrees}
use Rattle.sums.proofs.Sides.{engine_by, side-holds}

module _ {v : VehicleSheet} (sound : Sound v) (e : Fraction) (between : BetweenEnds v e) (speed : ℕ) where
  abbrev close : ℕ → Bool
  close = close_at (first_side v) (higher_side v) v.ndv speed

  above_same : (i : ℕ) → close i ≡ false → above_at (first_side v) (higher_side v) v.ndv speed i ≡ less (exact_upshift v e i) (exact_speed speed)
  unfolding exact_upshift
  above_same i called = agrees (engine_by v e (eqb i 0)) (side-holds sound e between (eqb i 0)) speed (get_or v.ndv i 0) called

  passed-same : (n : ℕ) → ltb 0 (count close n) ≡ false → count (above_at (first_side v) (higher_side v) v.ndv speed) n ≡ passed (exact_upshift v e) speed n
  passed-same n called =
      let none : count close n ≡ 0 = omega (arith, ltb-false 0 (count close n) called) in
      count_same _ _ n (λ i l. above_same i (none-holds close n none i l))

  set-1-same : (accelerates : Bool) → (by_set1 (shift_of v) accelerates speed).close ≡ false
      → (by_set1 (shift_of v) accelerates speed).gear ≡ exact_by_set1 v e accelerates speed
  unfolding by_set1 tally_of shift_of exact_by_set1
  set-1-same true called = ap (λ (c : ℕ). c + 1) (passed-same (v.gears - 1) called)
  set-1-same false called = ap (λ (c : ℕ). c + 2) (passed-same (v.gears - 2) called)

  -- 004's downshift speeds past the first are 01's upshift speeds of the gear before
  downshift-is : (i : ℕ) → exact_upshift v e i ≡ downshift v e (suc i)
  downshift-is i = sym (upshift-is v e i) ∙ same-speed v e (suc i)

  set-1-down : exact_by_set1 v e false speed ≡ passed (λ i. downshift v e (suc i)) speed (v.gears - 2) + 2
  unfolding exact_by_set1
  set-1-down = (λ j. passed (λ i. downshift-is i j) speed (v.gears - 2) + 2)

  second_is : below_second (shift_of v) speed ≡ less (exact_speed speed) (downshift v e 0)
  second_is = second-exactly sound speed e ∙ ap (less (exact_speed speed)) (same-speed v e 0)

  set-2-same : (accelerates : Bool) → (by_set2 (shift_of v) accelerates speed).close ≡ false
      → (by_set2 (shift_of v) accelerates speed).gear ≡ exact_by_set2 v e accelerates speed
  unfolding by_set2 exact_by_set2
  set-2-same true called = set-1-same true called
  set-2-same false called =
      let rest = set-1-same false called ∙ set-1-down in
      (λ j. cond (second_is j) 1 (rest j))

  pub gear-same : (accelerates : Bool) → (own_gear (shift_of v) accelerates speed).close ≡ false
      → (own_gear (shift_of v) accelerates speed).gear ≡ exact_gear v e accelerates speed
  unfolding own_gear shift_of exact_gear
  gear-same accelerates = go (eqb v.rules 2)
    where
      go : (set2 : Bool) → (cond set2 (by_set2 (shift_of v) accelerates speed) (by_set1 (shift_of v) accelerates speed)).close ≡ false
          → (cond set2 (by_set2 (shift_of v) accelerates speed) (by_set1 (shift_of v) accelerates speed)).gear
          ≡ cond set2 (exact_by_set2 v e accelerates speed) (exact_by_set1 v e accelerates speed)
      go true = set-2-same accelerates
      go false = set-1-same accelerates
