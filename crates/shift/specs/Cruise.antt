-- Document 004, chapter 2W-II, 4.5.5.2.1: the shift speeds of rule set 2 in cruise and deceleration, in km/h, each as its equation is written there, as fractions, from
-- any e; and the gear of a second by speeds that lie between the gears. 004's reference mass is m + 75 (3.1.54), so its e is that of 01. Gears count from 0 here.
use Rattle.std.specs.Prelude.{Bool, not, cond, ◌&&◌, ℕ, zero, suc, ◌+◌, ◌-◌, ltb, pos}
use Rattle.arith.specs.Fraction.{Fraction, decimal, ◌/ᶠ◌}
use Rattle.vehicle.specs.declared.VehicleSheet.{VehicleSheet}
use Rattle.vehicle.specs.Sheet.{ndv_at}
use Rattle.shift.specs.Speeds.{power_of, count, Own}
use Rattle.shift.specs.Exact.{exact_first, exact_higher, exact_lowest, exact_speed, from_units, less}

-- "ndv(i)", per minute per km/h
abbrev pub ratio : VehicleSheet → ℕ → Fraction
ratio v i = decimal (pos (ndv_at v.ndv i)) 100

-- from the gear after gear i down to gear i
unfoldable pub downshift : VehicleSheet → Fraction → ℕ → Fraction
-- equation 2.7, 2 to 1: "[0.03 (s - n) + n] x 1 / ndv2"
downshift v e zero = exact_lowest v /ᶠ ratio v 1
-- equation 2-6, 3 to 2: "[(0.5753 e - 0.1)(s - n) + n] x 1 / ndv1"
downshift v e (suc zero) = exact_first v e /ᶠ ratio v 0
-- equation 2-5, i to i-1: "[0.5753 e (s - n) + n] x 1 / ndv(i-2), i = 4 to ng"
downshift v e (suc (suc i)) = exact_higher v e /ᶠ ratio v (suc i)

-- from gear i up to the next, "during cruise phases"
unfoldable pub cruise_upshift : VehicleSheet → Fraction → ℕ → Fraction
-- equation 2-7a, 1 to 2: "[0.03 (s - n) + n] x 1 / ndv2"
cruise_upshift v e zero = exact_lowest v /ᶠ ratio v 1
-- equation 2-8, 2 to 3: "[(0.5753 e - 0.1)(s - n) + n] x 1 / ndv1"
cruise_upshift v e (suc zero) = exact_first v e /ᶠ ratio v 0
-- equation 2-9, i to i+1: "[0.5753 e (s - n) + n] x 1 / ndv(i-1), i = 3 to ng", of which ng is one too many: there is no gear above it
cruise_upshift v e (suc (suc i)) = exact_higher v e /ᶠ ratio v (suc i)

-- a speed of a vehicle for each e and each gear, between that gear and the next
abbrev pub BetweenGears : Type 0
BetweenGears = Fraction → ℕ → Fraction

-- above the speed between the gear after i and the next, whatever e is between its ends; neither above nor below it is too close to call
abbrev pub above_it : VehicleSheet → BetweenGears → ℕ → ℕ → Bool
above_it v between speed i = less (between (from_units (power_of v).upper) (suc i)) (exact_speed speed)

abbrev pub below_it : VehicleSheet → BetweenGears → ℕ → ℕ → Bool
below_it v between speed i = less (exact_speed speed) (between (from_units (power_of v).lower) (suc i))

-- 4.5.5.2.1.3: "gear 1, if v < v2->1; gear 2, if v < v3->2; gear 3, if v3->2 <= v < v4->3; ..", the first that fits: gear 1 below the speed between the first two gears,
-- in which there is no e, and else two more than the number of the other speeds that it is above
unfoldable pub gear_between : VehicleSheet → BetweenGears → ℕ → Own
gear_between v between speed =
    record {
      gear = cond (less (exact_speed speed) (between (from_units (power_of v).lower) 0)) 1 (count (above_it v between speed) (v.gears - 2) + 2);
      close = ltb 0 (count (λ i. not (below_it v between speed i) && not (above_it v between speed i)) (v.gears - 2));
    }
