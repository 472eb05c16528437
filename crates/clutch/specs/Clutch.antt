-- The clutch of each second, over the finished row (01, Gear of each second; 02, M-100). Seconds count from 0 here.
use Rattle.std.specs.Prelude.{ℕ, ◌+◌, ◌*◌, cond, ◌||◌, List, set, ltb}
use Rattle.walk.specs.Walk.{in_turn}
use Rattle.house.specs.House.{speed_at, flags_at, stop}
use Rattle.vehicle.specs.declared.VehicleSheet.{VehicleSheet}
use Rattle.vehicle.specs.Engine.{below_lowest}
use Rattle.row.specs.Row.{gear_at}

-- 01: "Stop: .. Clutch out." "Outside stop, the clutch is out .. below 10.0 km/h", and by M-100 "also out when engine speed in the final gear is below
-- n + 0.03 (s - n)". A gear 0 outside stop, which no finished row has, turns no engine: out
unfoldable pub clutch_of : VehicleSheet → ℕ → ℕ → ℕ → ℕ
clutch_of v flags speed gear = cond (stop flags || ltb speed 100 || below_lowest v gear speed) 1 0

-- a row with the clutch of each of its first n seconds, whatever the rule that gives it from a second and its gear
abbrev pub clutch_step : (ℕ → ℕ → ℕ) → List ℕ → ℕ → List ℕ
clutch_step rule row k = set row (2 * k + 1) (rule k (gear_at row k))

unfoldable pub with_clutch : (ℕ → ℕ → ℕ) → List ℕ → ℕ → List ℕ
with_clutch rule row n = in_turn (clutch_step rule) row n

-- the rule of a vehicle on a trace
abbrev pub clutch_by : VehicleSheet → List ℕ → ℕ → ℕ → ℕ
clutch_by v trace k gear = clutch_of v (flags_at trace k) (speed_at trace k) gear
