-- 01, Gear of each second, and 004, 4.5.5.2.1, by the shift speeds from any e, as fractions: the gear of a second, compared exactly, and the row. Gears and shift speeds
-- count from 0 here.
use Rattle.std.specs.Prelude.{Bool, true, false, cond, List, ℕ, suc, ◌+◌, ◌-◌, eqb}
use Rattle.arith.specs.Fraction.{Fraction}
use Rattle.house.specs.House.{count_of, speed_at, flags_at, acceleration}
use Rattle.vehicle.specs.declared.VehicleSheet.{VehicleSheet}
use Rattle.shift.specs.Speeds.{count}
use Rattle.shift.specs.Exact.{exact_upshift, exact_speed, less}
use Rattle.shift.specs.Cruise.{downshift}
use Rattle.gear.specs.Sheet.{row_from}
use Rattle.sums.specs.Sums.{exact_power}

-- how many of the first n shift speeds, in km/h, a speed is above
abbrev pub passed : (ℕ → Fraction) → ℕ → ℕ → ℕ
passed shifts speed n = count (λ i. less (shifts i) (exact_speed speed)) n

-- rule set 1: "Acceleration: one more than the number of upshift speeds the speed is above. Cruise, deceleration: two more than the number of downshift speeds it is
-- above"; "Downshift 3 to 2: the upshift 1 to 2. Downshift i to i-1, i = 4 to ng: the upshift i-2 to i-1"
unfoldable pub exact_by_set1 : VehicleSheet → Fraction → Bool → ℕ → ℕ
exact_by_set1 v e true speed = passed (exact_upshift v e) speed (v.gears - 1) + 1
exact_by_set1 v e false speed = passed (exact_upshift v e) speed (v.gears - 2) + 2

-- rule set 2: acceleration as in set 1; else "gear 1, if v < v2->1; gear 2, if v < v3->2; gear 3, if v3->2 <= v < v4->3; ..", the first that fits. At equality
-- with a speed that has an exponential in it 004 has the upper gear and 001 the lower, which is taken here; no row tells, since that second is too close to call
unfoldable pub exact_by_set2 : VehicleSheet → Fraction → Bool → ℕ → ℕ
exact_by_set2 v e true speed = exact_by_set1 v e true speed
exact_by_set2 v e false speed = cond (less (exact_speed speed) (downshift v e 0)) 1 (passed (λ i. downshift v e (suc i)) speed (v.gears - 2) + 2)

-- by the rule set that the sheet names
unfoldable pub exact_gear : VehicleSheet → Fraction → Bool → ℕ → ℕ
exact_gear v e accelerates speed = cond (eqb v.rules 2) (exact_by_set2 v e accelerates speed) (exact_by_set1 v e accelerates speed)

-- the row from these gears, by the same stop rule, corrections and clutch
unfoldable pub exact_row : VehicleSheet → Fraction → List ℕ → List ℕ
exact_row v e trace = row_from v (λ k. exact_gear v e (acceleration (flags_at trace k)) (speed_at trace k)) trace (count_of trace)

-- "the row that this longer sum would give"
abbrev pub longer_row : VehicleSheet → ℕ → List ℕ → List ℕ
longer_row v n trace = exact_row v (exact_power v n) trace
