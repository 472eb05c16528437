-- The engine speed of a vehicle at a speed in a gear, and the lowest one that drives, in 0.001 per minute: a speed in 0.1 km/h times ndv in 0.01 per minute per
-- km/h. Gears count from 1 here, as a row names them, and 0 is neutral.
use Rattle.std.specs.Prelude.{Bool, cond, List, ℕ, ◌+◌, ◌-◌, ◌*◌, ltb}
use Rattle.refusal.specs.Ranges.{within}
use Rattle.vehicle.specs.declared.VehicleSheet.{VehicleSheet}
use Rattle.vehicle.specs.Sheet.{ndv_at}

-- the ndv of a gear; neutral turns no engine, and neither does what is no gear: 0
abbrev pub ndv_of : List ℕ → ℕ → ℕ
ndv_of ndv gear = cond (within 1 8 gear) (ndv_at ndv (gear - 1)) 0

abbrev pub engine_speed : VehicleSheet → ℕ → ℕ → ℕ
engine_speed v gear speed = speed * ndv_of v.ndv gear

-- 001, 6.5.5.2.1.3 and table A13-3 (3.0 per cent): "n + 0.03 (s - n)"
abbrev pub lowest_engine_speed : VehicleSheet → ℕ
lowest_engine_speed v = 1000 * v.idle + 30 * (v.rated - v.idle)

-- "the engine speed drops below n + 0.03 (s - n)"; at equality it does not
unfoldable pub below_lowest : VehicleSheet → ℕ → ℕ → Bool
below_lowest v gear speed = ltb (engine_speed v gear speed) (lowest_engine_speed v)
