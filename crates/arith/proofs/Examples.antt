-- Worked examples of the layer, by computation: negative dividends, zero, the largest magnitudes, products of every sign.
use mathlib.Core.Path.{◌≡◌, refl}
use lib.IntN.{ℤ, pos, negsuc}
use lib.Signed.{le_z_yes, lt_z_yes}
use Rattle.arith.specs.declared.Ends.{Ends}
use Rattle.arith.specs.Rounding.{div_down, div_up}
use Rattle.arith.specs.Stages.{exactly, difference_of, scaled_by, hull_of, product_of, divided_by}
use Rattle.arith.specs.Fraction.{whole, ◌-ᶠ◌, ◌*ᶠ◌, ◌/ᶠ◌, Between}

-- the quotient rounded down, and rounded up
abbrev quotients : ℤ → ℤ → Ends
quotients n d = record { lower = div_down n d; upper = div_up n d }

abbrev ends : ℤ → ℤ → Ends
ends l u = record { lower = l; upper = u }

seven : quotients (pos 7) (pos 2) ≡ ends (pos 3) (pos 4)
unfolding div_down div_up
seven = refl

minus-seven : quotients (negsuc 6) (pos 2) ≡ ends (negsuc 3) (negsuc 2)
unfolding div_down div_up
minus-seven = refl

zero-by-three : quotients (pos 0) (pos 3) ≡ exactly (pos 0)
unfolding div_down div_up exactly
zero-by-three = refl

minus-six : quotients (negsuc 5) (pos 3) ≡ exactly (negsuc 1)
unfolding div_down div_up exactly
minus-six = refl

minus_one : quotients (negsuc 0) (pos 1000) ≡ ends (negsuc 0) (pos 0)
unfolding div_down div_up
minus_one = refl

-- −2⁶³ and 2⁶³ − 1
least : quotients (negsuc 9223372036854775807) (pos 1000000007) ≡ ends (negsuc 9223371972) (negsuc 9223371971)
unfolding div_down div_up
least = refl

most : quotients (pos 9223372036854775807) (pos 1000000007) ≡ ends (pos 9223371972) (pos 9223371973)
unfolding div_down div_up
most = refl

-- a lower end may come from the upper end of a factor: −3 to 5 times −7 to 4; a volume at a
-- negative concentration is lowest at the larger volume
signs : product_of (ends (negsuc 2) (pos 5)) (ends (negsuc 6) (pos 4)) ≡ ends (negsuc 34) (pos 21)
unfolding product_of hull_of scaled_by
signs = refl

negative : product_of (ends (pos 56167763) (pos 56167764)) (exactly (negsuc 32767)) ≡ ends (negsuc 1840505290751) (negsuc 1840505257983)
unfolding product_of hull_of scaled_by exactly
negative = refl

turned : scaled_by (negsuc 1) (ends (negsuc 2) (pos 5)) ≡ ends (negsuc 9) (pos 6)
unfolding scaled_by
turned = refl

outward : divided_by (ends (negsuc 6) (pos 7)) (pos 2) ≡ ends (negsuc 3) (pos 4)
unfolding divided_by div_down div_up
outward = refl

less : difference_of (ends (pos 1) (pos 2)) (ends (pos 10) (pos 20)) ≡ ends (negsuc 18) (negsuc 7)
unfolding difference_of
less = refl

-- (1/2 − 1/3) · 6 / 7, which nothing reduces, lies between 0 and 1
sixth : (whole (pos 1) /ᶠ whole (pos 2) -ᶠ whole (pos 1) /ᶠ whole (pos 3)) *ᶠ whole (pos 6) /ᶠ whole (pos 7) ≡ record { num = pos 6; den = pos 42 }
sixth = refl

between : Between (ends (pos 0) (pos 1)) (record { num = pos 6; den = pos 42 })
between = record { positive = lt_z_yes tt; above = le_z_yes tt; below = le_z_yes tt }
