-- The formula at its edges, computed by the definition itself. Assumes nothing.
use mathlib.Core.Path.{◌≡◌, refl}
use mathlib.Core.Bool.{true, false}
use Prim.Native.Nat.{ℕ}
use lib.IntN.{ℤ, pos, negsuc}
use Rattle.arith.specs.declared.Ends.{Ends}
use Rattle.arith.specs.Rounding.{div_down, div_up}
use Rattle.arith.specs.Stages.{exactly, difference_of, scaled_by, divided_by}
use Rattle.bag.specs.declared.Efficiencies.{Efficiencies}
use Rattle.cutter.specs.NonMethane.{efficient, non_methane_of}

abbrev by : ℕ → ℕ → Efficiencies
by methane ethane = record { methane = methane; ethane = ethane }

abbrev ends : ℤ → ℤ → Ends
ends lower upper = record { lower = lower; upper = upper }

-- 003's example: 27.0 ppm without and 18.0 with a cutter of 0.04 and 0.98 are 8.4255 ppm, which is 2,156.9 in 1/256 ppm
example-of-003 : non_methane_of (by 40 980) (exactly (pos 6912)) (exactly (pos 4608)) ≡ ends (pos 2156) (pos 2157)
unfolding non_methane_of divided_by difference_of scaled_by exactly div_down div_up
example-of-003 = refl

-- a cutter's reading above the other's gives less than nothing
below-zero : non_methane_of (by 0 1000) (ends (pos 9) (pos 10)) (ends (pos 11) (pos 12)) ≡ ends (negsuc 2) (negsuc 0)
unfolding non_methane_of divided_by difference_of scaled_by exactly div_down div_up
below-zero = refl

-- 500 apart, and one less
apart : (efficient (by 500 1000) ≡ true) × (efficient (by 501 1000) ≡ false)
apart = (refl, refl)
