-- The clutch of all lanes, from tables (01, Gear of each second; 02, M-100). Lanes, lines and seconds count from 0 here, and gears from 1, as a row names them.
use Rattle.std.specs.Prelude.{ℕ, ◌+◌, ◌-◌, ◌*◌, ◌%◌, ◌<◌, ◌≤◌, ◌≡◌, Bool, true, false, cond, ◌&&◌, ◌||◌, List, eqb, leb, ltb, length, get_or}
use Rattle.house.specs.House.{stop, stop_at}
use Rattle.vehicle.specs.declared.VehicleSheet.{VehicleSheet}
use Rattle.vehicle.specs.Sheet.{ndv_at, Sound}
use Rattle.vehicle.specs.Engine.{lowest_engine_speed}
use Rattle.shift.specs.Speeds.{count}
use Rattle.tenths.specs.Least.{not_below}
use Rattle.row.specs.Row.{gear_at}
use Rattle.clutch.specs.Clutch.{clutch_by}
use Rattle.lanes.specs.Lanes.{lane_at, line_by, Holds}

-- the least tenth at which a vehicle's engine turns no slower than n + 0.03 (s - n) in a gear; 0 for one that it has not
abbrev pub limit_of : VehicleSheet → ℕ → ℕ
limit_of v gear = cond (ltb v.gears gear) 0 (not_below (lowest_engine_speed v) (ndv_at v.ndv (gear - 1)))

-- lane j of the tables has those of a vehicle
pub record LimitsOf (v : VehicleSheet) (tables : List ℕ) (j : ℕ) : Type 0 where
  pub limits : (gear : ℕ) → 1 ≤ gear → gear ≤ 8 → lane_at tables j (gear + 8) ≡ limit_of v gear

-- of the first n gears, those that are lane j's and are reached: one or none
abbrev pub drives_lane : List ℕ → ℕ → ℕ → ℕ → ℕ → ℕ
drives_lane tables speed gear j n = count (λ i. eqb gear (i + 1) && leb (lane_at tables j (i + 9)) speed) n

-- a gear and its clutch in one byte
abbrev pub clutched : Bool → ℕ → ℕ
clutched out gear = cond out (gear % 128 + 128) (gear % 128)

-- second k of all lanes
abbrev pub clutch_line : List ℕ → ℕ → ℕ → ℕ → ℕ → List ℕ → List ℕ
clutch_line tables top flags speed k lanes =
    cond (stop flags || ltb speed 100)
    (line_by (λ m j. clutched true (lane_at m j k)) k lanes 16)
    (cond (ltb speed top) (line_by (λ m j. clutched (eqb (drives_lane tables speed (lane_at m j k) j 8) 0) (lane_at m j k)) k lanes 16) lanes)

-- none of the tables' limits before place `to` is higher
pub record Tops (tables : List ℕ) (to top : ℕ) : Type 0 where
  pub tops : (i : ℕ) → 144 ≤ i → i < to → get_or tables i 0 ≤ top

-- every gear of a row is one that the vehicle has, and no second outside stops is in neutral
pub record Geared (v : VehicleSheet) (trace row : List ℕ) (n : ℕ) : Type 0 where
  pub high : (k : ℕ) → k < n → gear_at row k ≤ v.gears
  pub some : (k : ℕ) → k < n → stop_at trace k ≡ false → 1 ≤ gear_at row k

-- what it makes of the lanes: each gear with its clutch
pub record Clutches (trace tables before after : List ℕ) (n : ℕ) : Type 0 where
  pub long : length after ≡ length before
  pub lane : (j : ℕ) → j < 16 → (v : VehicleSheet) → Sound v → LimitsOf v tables j → (row : List ℕ) → Geared v trace row n → Holds before row n j
      → (k : ℕ) → k < n → lane_at after j k ≡ gear_at row k + 128 * clutch_by v trace k (gear_at row k)
