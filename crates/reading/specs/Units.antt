-- What a message of the analyser is worth in units of 1/256 ppm (01, Bag sheet and figures, first paragraph; 02, M-104).
-- A float is `nan`, `inf s` or `fin s m e`: m · 2ᵉ, with a minus where s is true. `up e / down e` is 2ᵉ (lib.Ieee).
use Rattle.std.specs.Prelude.{ℕ, ◌*◌, Bool, true, false, cond, ℤ, pos, neg_ℤ, Float, None, Option, Some}
use Rattle.std.specs.Int.Signed.{le_z, lt_z}
use Rattle.std.specs.Float.{nan, inf, fin}
use Rattle.std.specs.Float.Ieee.{up, down}
use Rattle.arith.specs.declared.Ends.{Ends}
use Rattle.arith.specs.Rounding.{div_down, div_up}
use Rattle.arith.specs.Stages.{exactly}
use Rattle.arith.specs.Fraction.{Fraction, whole, ◌*ᶠ◌}
use Rattle.reading.specs.declared.Message.{Message}
use Rattle.reading.specs.declared.Message.TheVariants.{Ppm, Percent, OverRange, NotFitted}

-- "the float's exact value": a fraction; what is not a number or infinite has none
pub data Exact : Type 0 where
  value : Fraction → Exact
  none : Exact

-- "minus zero is zero": −0 is 0 among the whole numbers
abbrev pub exact_value : Float → Exact
exact_value nan = none
exact_value (inf s) = none
exact_value (fin s m e) = value (record { num = cond s (neg_ℤ (pos (m * up e))) (pos (m * up e)); den = pos (down e) })

-- so many times the value
abbrev pub times : ℤ → Exact → Exact
times each none = none
times each (value q) = value (q *ᶠ whole each)

-- in units: "ppm by 256; percent by 2,560,000"; "over range, not fitted" have no value
abbrev pub exact_units : Message → Exact
exact_units (Ppm x) = times (pos 256) (exact_value x)
exact_units (Percent x) = times (pos 2560000) (exact_value x)
exact_units OverRange = none
exact_units NotFitted = none

-- "A converted reading becomes two ends, the float's exact value in 1/256 ppm rounded down and up" (02, M-104)
unfoldable pub outward : Fraction → Ends
outward q = record { lower = div_down q.num q.den; upper = div_up q.num q.den }

-- "16,777,216 units are judged on the upper end": more is unusable
abbrev pub most_units : ℕ
most_units = 16777216

abbrev pub up_to_limit : Ends → Option Ends
up_to_limit ends = cond (le_z ends.upper (pos most_units)) (Some ends) None

-- "its 'below zero' still on the float itself", whose sign the scale keeps: before any rounding
abbrev pub rounded : Exact → Option Ends
rounded none = None
rounded (value q) = cond (lt_z q.num (pos 0)) None (up_to_limit (outward q))

-- what a message is worth
unfoldable pub units_of : Message → Option Ends
units_of message = rounded (exact_units message)

-- ---- the reading behind the cutter, 02, M-108
abbrev pub is_fitted : Message → Bool
is_fitted (Ppm x) = true
is_fitted (Percent x) = true
is_fitted OverRange = true
is_fitted NotFitted = false

-- "'not fitted' for the cutter reading .. leaves the fifth absent": it is no fault. No figure is made of the 0 that stands for it
unfoldable pub cutter_units : Message → Option Ends
cutter_units message = cond (is_fitted message) (units_of message) (Some (exactly (pos 0)))
