-- 01, Shift speeds: the upshift speeds in km/h as they are written there, as fractions, from any e; the lowest engine speed of 001; and what a comparison
-- in whole numbers says of them.
-- Gears count from 0 here.
use Rattle.std.specs.Prelude.{◌≡◌, Bool, cond, ℕ, ◌^◌, eqb, ℤ, pos, ◌*ℤ◌, ◌<ℤ◌}
use Rattle.std.specs.Int.Signed.{lt_z}
use Rattle.arith.specs.Fraction.{Fraction, whole, decimal, ◌+ᶠ◌, ◌-ᶠ◌, ◌*ᶠ◌, ◌/ᶠ◌}
use Rattle.vehicle.specs.declared.VehicleSheet.{VehicleSheet}
use Rattle.vehicle.specs.Sheet.{ndv_at}
use Rattle.vehicle.specs.Engine.{ndv_of}
use Rattle.shift.specs.Speeds.{power_of, first_side, higher_side, side_at, below, above}

-- an end of e, which is "in units of 1/2^32"
abbrev pub from_units : ℤ → Fraction
from_units end = decimal end (2 ^ 32)

-- ---- the engine speeds in the brackets
-- "s - n"
abbrev pub above_idle : VehicleSheet → Fraction
above_idle v = whole (pos v.rated) -ᶠ whole (pos v.idle)

-- upshift 1 to 2: "(0.5753 e - 0.1)(s - n) + n"
unfoldable pub exact_first : VehicleSheet → Fraction → Fraction
exact_first v e = (decimal (pos 5753) 10000 *ᶠ e -ᶠ decimal (pos 1) 10) *ᶠ above_idle v +ᶠ whole (pos v.idle)

-- upshift i to i+1, i = 2 to ng-1: "0.5753 e (s - n) + n"
unfoldable pub exact_higher : VehicleSheet → Fraction → Fraction
exact_higher v e = decimal (pos 5753) 10000 *ᶠ e *ᶠ above_idle v +ᶠ whole (pos v.idle)

-- ---- in km/h
-- the upshift from gear i: "/ ndv(i)", which is "in 0.01 per minute per km/h"
unfoldable pub exact_upshift : VehicleSheet → Fraction → ℕ → Fraction
exact_upshift v e i = cond (eqb i 0) (exact_first v e) (exact_higher v e) /ᶠ decimal (pos (ndv_at v.ndv i)) 100

-- a second's "speed in 0.1 km/h"
abbrev pub exact_speed : ℕ → Fraction
exact_speed speed = decimal (pos speed) 10

-- ---- the lowest engine speed, per minute
-- of a second in a gear: speed times ndv
abbrev pub exact_engine_speed : VehicleSheet → ℕ → ℕ → Fraction
exact_engine_speed v gear speed = exact_speed speed *ᶠ decimal (pos (ndv_of v.ndv gear)) 100

-- 001, 6.5.5.2.1.3: "n + 0.03 (s - n)"
abbrev pub exact_lowest : VehicleSheet → Fraction
exact_lowest v = whole (pos v.idle) +ᶠ decimal (pos 3) 100 *ᶠ above_idle v

-- p < q, of fractions with positive denominators, said without a division
abbrev pub less : Fraction → Fraction → Bool
less p q = lt_z (q.den *ℤ p.num) (p.den *ℤ q.num)

-- a speed is below the upshift from gear i where it is below the one from the lower end of e, and above it where it is above the one from the upper end
pub record Compared (v : VehicleSheet) (i speed : ℕ) : Type 0 where
  pub positive : (end : ℤ) → pos 0 <ℤ (exact_upshift v (from_units end) i).den
  pub is_below :
      below speed (ndv_at v.ndv i) (side_at (first_side v) (higher_side v) i) ≡ less (exact_speed speed) (exact_upshift v (from_units (power_of v).lower) i)
  pub is_above :
      above speed (ndv_at v.ndv i) (side_at (first_side v) (higher_side v) i) ≡ less (exact_upshift v (from_units (power_of v).upper) i) (exact_speed speed)
