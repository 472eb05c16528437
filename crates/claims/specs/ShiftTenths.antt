-- What is promised of the shift speeds in whole tenths (02, M-106), of every accepted vehicle: they say what 01's comparison with the ends says. The theorem is that of
-- proofs/ShiftTenths.antt. Gears and shift speeds count from 0 here.
use Rattle.std.specs.Prelude.{◌≡◌, Bool, true, ℕ, ◌+◌, ◌≤◌, ◌<◌, leb, ltb, get_or}
use Rattle.arith.specs.declared.Ends.{Ends}
use Rattle.vehicle.specs.declared.VehicleSheet.{VehicleSheet}
use Rattle.vehicle.specs.Sheet.{ndv_at}
use Rattle.shift.specs.Speeds.{first_side, higher_side, side_at, below, above, too_close, shift_of, own_gear}
use Rattle.tenths.specs.declared.Tenths.{Tenths}
use Rattle.tenths.specs.Least.{tenths_of}
use Rattle.tenths.specs.Choice.{own_by_tenths}

abbrev pub tenths : VehicleSheet → Tenths
tenths v = tenths_of (shift_of v)

abbrev pub above_of : VehicleSheet → ℕ → ℕ
above_of v i = get_or (tenths v).above i 0

abbrev pub not_below_of : VehicleSheet → ℕ → ℕ
not_below_of v i = get_or (tenths v).not_below i 0

abbrev pub upshift_side : VehicleSheet → ℕ → Ends
upshift_side v i = side_at (first_side v) (higher_side v) i

-- the upshift from gear i: "the least tenth of a km/h above each .. with a mark where a tenth is too close", of which there is one at most
pub record Worked (v : VehicleSheet) (i : ℕ) : Type 0 where
  pub is_above : (speed : ℕ) → leb (above_of v i) speed ≡ above speed (ndv_at v.ndv i) (upshift_side v i)
  pub is_below : (speed : ℕ) → ltb speed (not_below_of v i) ≡ below speed (ndv_at v.ndv i) (upshift_side v i)
  pub in_turn : not_below_of v i ≤ above_of v i
  pub next : above_of v i ≤ not_below_of v i + 1
  pub one : (a b : ℕ) → too_close a (ndv_at v.ndv i) (upshift_side v i) ≡ true → too_close b (ndv_at v.ndv i) (upshift_side v i) ≡ true → a ≡ b

-- all of them; and "choose gears from those whole numbers. Every trace must give the same row and the same refusals as the present comparison"
pub record ByTenths (v : VehicleSheet) : Type 0 where
  pub each : (i : ℕ) → i + 1 < v.gears → Worked v i
  pub rest : (i : ℕ) → v.gears ≤ i + 1 → i < 7 → (above_of v i ≡ 65535) × (not_below_of v i ≡ 65535)
  pub own : (accelerates : Bool) (speed : ℕ) → speed ≤ 2000 → own_by_tenths (tenths v) accelerates speed ≡ own_gear (shift_of v) accelerates speed
