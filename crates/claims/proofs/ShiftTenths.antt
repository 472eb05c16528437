-- Of every accepted vehicle the shift speeds in whole tenths say what the ends say. Assumes nothing.
use mathlib.Core.Path.{◌≡◌, ap, ◌∙◌}
use mathlib.Core.Bool.{Bool, true, false, not}
use Prim.Native.Nat.{ℕ, ◌+◌, ◌≤◌, ◌<◌}
use native.Mathlib.Omega.{arith}
use lib.Dec.{leb, ltb}
use borrow.Author.Tests.{leb-true, leb-false, lt-ltb, le-ltb}
use Rattle.std.specs.Prelude.{Ok}
use Rattle.vehicle.specs.declared.VehicleSheet.{VehicleSheet}
use Rattle.vehicle.specs.Sheet.{ndv_at, judge_vehicle, Sound}
use Rattle.vehicle.proofs.Sound.{accepted-sound}
use Rattle.shift.specs.Speeds.{below, shift_of}
use Rattle.shift.proofs.Sides.{vehicle-worked}
use Rattle.tenths.specs.declared.LeastTenths.{LeastTenths}
use Rattle.tenths.specs.Least.{least_of, tenths_of}
use Rattle.tenths.proofs.Comparing.{above-by-tenths, not-below-by-tenths}
use Rattle.tenths.proofs.Places.{place_here, place-past}
use Rattle.tenths.proofs.Choosing.{own-by-tenths}
use Rattle.tenths.proofs.Marks.{in_order_lem, least-apart, one-tenth}
use Rattle.claims.specs.ShiftTenths.{above_of, not_below_of, upshift_side, Worked, ByTenths}

-- a speed is below what it has not reached
reached-not : (least speed : ℕ) (under : Bool) → leb least speed ≡ not under → ltb speed least ≡ under
reached-not least speed true e = lt-ltb speed least (leb-false least speed e)
reached-not least speed false e = le-ltb speed least (leb-true least speed e)

module _ {v : VehicleSheet} (sound : Sound v) where
  module _ (i : ℕ) (l : i + 1 < v.gears) where
    at : i < 7
    at = omega (arith, sound.ranged.gears)

    some : 0 < ndv_at v.ndv i
    some = omega (arith, (sound.ndv i (omega arith)).0)

    above-there : above_of v i ≡ (least_of (upshift_side v i) (ndv_at v.ndv i)).above
    unfolding tenths_of shift_of
    above-there = place_here (shift_of v) i (λ (t : LeastTenths). t.above) at l

    not-below-there : not_below_of v i ≡ (least_of (upshift_side v i) (ndv_at v.ndv i)).not_below
    unfolding tenths_of shift_of
    not-below-there = place_here (shift_of v) i (λ (t : LeastTenths). t.not_below) at l

    upshift-worked : Worked v i
    upshift-worked =
        let ndv = ndv_at v.ndv i in
        let side = upshift_side v i in
        let apart = least-apart sound i (omega arith) in
        record {
          is_above = λ speed. ap (λ (t : ℕ). leb t speed) above-there ∙ above-by-tenths speed ndv some side;
          is_below = λ speed. ap (ltb speed) not-below-there ∙ reached-not _ speed (below speed ndv side) (not-below-by-tenths speed ndv some side);
          in_turn = rw (above-there, not-below-there) apart.0;
          next = rw (above-there, not-below-there) apart.1;
          one = one-tenth sound i (omega arith);
        }

  past-them : (i : ℕ) → v.gears ≤ i + 1 → i < 7 → (above_of v i ≡ 65535) × (not_below_of v i ≡ 65535)
  unfolding tenths_of shift_of
  past-them i l at = (place-past (shift_of v) i (λ (t : LeastTenths). t.above) at l, place-past (shift_of v) i (λ (t : LeastTenths). t.not_below) at l)

pub by-tenths : (v : VehicleSheet) → judge_vehicle v ≡ Ok tt → ByTenths v
by-tenths v accepted =
    let sound = accepted-sound v accepted in
    record {
      each = upshift-worked sound;
      rest = past-them sound;
      own = λ accelerates speed slow. own-by-tenths (vehicle-worked sound) speed slow (in_order_lem sound) accelerates;
    }
