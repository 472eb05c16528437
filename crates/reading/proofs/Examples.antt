-- Messages and their ends, by computation, at bit patterns of the float: 01's known figures as 02, M-104 has them, whole units and the floats beside
-- them, the limit, and what is unusable; then patterns taken apart. Assumes nothing.
use mathlib.Core.Path.{◌≡◌, refl}
use Prim.Native.Nat.{ℕ}
use lib.IntN.{pos}
use lib.Ieee.{Float, binary32, of_bits}
use Rattle.arith.specs.Rounding.{div_down, div_up}
use mathlib.Core.Bool.{Bool, true, false}
use Rattle.reading.specs.declared.Binary.{Binary}
use Rattle.reading.specs.declared.Message.TheVariants.{Ppm, Percent}
use Rattle.std.specs.Prelude.{None, Option, Some}
use Rattle.arith.specs.declared.Ends.{Ends}
use Rattle.reading.specs.Pattern.{binary_of, over}
use Rattle.reading.specs.Units.{outward, units_of}

abbrev float : ℕ → Float
float bits = of_bits binary32 bits

abbrev between : ℕ → ℕ → Option Ends
between lower upper = Some (record { lower = pos lower; upper = pos upper })

abbrev units : ℕ → Option Ends
units u = between u u

-- 1/512 ppm, which is half a unit, and 1/1,024 ppm
half-a-unit : units_of (Ppm (float 0x3b00_0000)) ≡ between 0 1
unfolding units_of of_bits outward div_down div_up
half-a-unit = refl

quarter-of-a-unit : units_of (Ppm (float 0x3a80_0000)) ≡ between 0 1
unfolding units_of of_bits outward div_down div_up
quarter-of-a-unit = refl

-- 2.5 units, and the float below
two-and-a-half-units : units_of (Ppm (float 0x3c20_0000)) ≡ between 2 3
unfolding units_of of_bits outward div_down div_up
two-and-a-half-units = refl

under-two-and-a-half : units_of (Ppm (float 0x3c1f_ffff)) ≡ between 2 3
unfolding units_of of_bits outward div_down div_up
under-two-and-a-half = refl

-- 2 units, and the floats beside
two-units : units_of (Ppm (float 0x3c00_0000)) ≡ units 2
unfolding units_of of_bits outward div_down div_up
two-units = refl

under-two-units : units_of (Ppm (float 0x3bff_ffff)) ≡ between 1 2
unfolding units_of of_bits outward div_down div_up
under-two-units = refl

over-two-units : units_of (Ppm (float 0x3c00_0001)) ≡ between 2 3
unfolding units_of of_bits outward div_down div_up
over-two-units = refl

-- 1/8,192 percent, which is 312.5 units
percent-half : units_of (Percent (float 0x3900_0000)) ≡ between 312 313
unfolding units_of of_bits outward div_down div_up
percent-half = refl

one-percent : units_of (Percent (float 0x3f80_0000)) ≡ units 2560000
unfolding units_of of_bits outward div_down div_up
one-percent = refl

-- the floats next to zero
smallest : units_of (Percent (float 1)) ≡ between 0 1
unfolding units_of of_bits outward div_down div_up
smallest = refl

below-zero : units_of (Percent (float 0x8000_0001)) ≡ None
unfolding units_of of_bits outward div_down div_up
below-zero = refl

minus-zero : units_of (Ppm (float 0x8000_0000)) ≡ units 0
unfolding units_of of_bits outward div_down div_up
minus-zero = refl

-- 65,536 ppm, and the float above
limit : units_of (Ppm (float 0x4780_0000)) ≡ units 16777216
unfolding units_of of_bits outward div_down div_up
limit = refl

past-limit : units_of (Ppm (float 0x4780_0001)) ≡ None
unfolding units_of of_bits outward div_down div_up
past-limit = refl

-- 6.5536 percent is not a float: the float below has the limit for its upper end, the one above for its
-- lower end, and is past it by its upper one
percent-limit : units_of (Percent (float 0x40d1_b717)) ≡ between 16777215 16777216
unfolding units_of of_bits outward div_down div_up
percent-limit = refl

percent-past-limit : units_of (Percent (float 0x40d1_b718)) ≡ None
unfolding units_of of_bits outward div_down div_up
percent-past-limit = refl

infinite : units_of (Ppm (float 0x7f80_0000)) ≡ None
unfolding units_of of_bits outward div_down div_up
infinite = refl

not-a-number : units_of (Percent (float 0xffc0_1234)) ≡ None
unfolding units_of of_bits outward div_down div_up
not-a-number = refl

-- ---- patterns
abbrev binary : Bool → ℕ → ℕ → Binary
binary negative exponent significand = record { negative = negative; exponent = exponent; significand = significand }

-- 1: the leading digit is not written
one : binary_of 0x3f80_0000 ≡ binary false 127 8388608
unfolding binary_of
one = refl

-- the largest without a leading digit, and the float above
largest-denormal : binary_of 0x007f_ffff ≡ binary false 1 8388607
unfolding binary_of
largest-denormal = refl

smallest-normal : binary_of 0x0080_0000 ≡ binary false 1 8388608
unfolding binary_of
smallest-normal = refl

-- minus zero, and the float below it
minus-zero-apart : binary_of 0x8000_0000 ≡ binary false 1 0
unfolding binary_of
minus-zero-apart = refl

below-zero-apart : binary_of 0x8000_0001 ≡ binary true 1 1
unfolding binary_of
below-zero-apart = refl

infinite-apart : binary_of 0xff80_0000 ≡ binary true 255 8388608
unfolding binary_of
infinite-apart = refl

-- 1/512 ppm is 256 · 2²³ / 2³² units, a half
half-outward : outward (over 2147483648 32) ≡ record { lower = pos 0; upper = pos 1 }
unfolding outward div_down div_up
half-outward = refl
