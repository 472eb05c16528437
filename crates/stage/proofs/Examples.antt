-- The stages by computation, where an edge decides: which end of a product is the outer one, which way a negative number is rounded, and what is equal.
-- 01's known figures are in claims. Assumes nothing.
use mathlib.Core.Path.{◌≡◌, refl}
use mathlib.Core.Bool.{true, false}
use Prim.Native.Nat.{ℕ}
use lib.IntN.{ℤ, pos, neg_ℤ}
use Rattle.arith.specs.declared.Ends.{Ends}
use Rattle.arith.specs.Rounding.{div_down, div_up}
use Rattle.arith.specs.Stages.{exactly, difference_of, scaled_by, hull_of, product_of, divided_by}
use Rattle.stage.specs.Part.{gtr, volume_of, q_of, dilution_good, concentration_of, gas_volume_of, mass_of, humidity_good, nox_mass_of, rate_of}

abbrev ends : ℤ → ℤ → Ends
ends lower upper = record { lower = lower; upper = upper }

abbrev minus : ℕ → ℤ
minus n = neg_ℤ (pos n)

-- at 20.0 degrees C the temperatures cancel: 525 ml x 193 is 101,325 ml, of which 100,000 Pa are 100,000 ml
inlet-depression : volume_of gtr 525 193 101325 1325 (pos 200) ≡ exactly (pos 100000)
unfolding volume_of divided_by div_down div_up exactly
inlet-depression = refl

-- the lower end of a negative gas volume comes from the upper volume: 4,096,000 and 8,192,000 ml at -1/4,096 ppm
outer-volume : gas_volume_of (ends (pos 4096000) (pos 8192000)) (exactly (minus 1)) ≡ ends (minus 2) (minus 1)
unfolding gas_volume_of product_of hull_of scaled_by divided_by div_down div_up exactly
outer-volume = refl

-- 1.5 micrograms on either side of zero go outward
outward-mass : mass_of (ends (minus 1) (pos 1)) 1500000 ≡ ends (minus 2) (pos 2)
unfolding mass_of scaled_by divided_by div_down div_up
outward-mass = refl

-- Kh a little below and above 1, on a negative mass
outer-kh : nox_mass_of (exactly (minus 65536)) (ends (pos 65535) (pos 65537)) ≡ ends (minus 65537) (minus 65535)
unfolding nox_mass_of product_of hull_of scaled_by divided_by div_down div_up exactly
outer-kh = refl

-- a third of a microgram/km below zero
outward-rate : rate_of (exactly (minus 1)) 3000 ≡ ends (minus 1) (pos 0)
unfolding rate_of scaled_by divided_by div_down div_up exactly
outward-rate = refl

-- one unit in the air and none in the bag, undiluted: -1/256 ppm
less-than-air : concentration_of (exactly (pos 0)) (exactly (pos 1)) (exactly (pos 0)) (q_of 100) ≡ exactly (minus 16)
unfolding concentration_of difference_of product_of hull_of scaled_by divided_by div_down div_up exactly
less-than-air = refl

-- "G must be below Q", which is 343,040,000 for petrol
g-at-q : dilution_good (exactly (pos 343040000)) (q_of 134) ≡ false
unfolding exactly
g-at-q = refl

g-below-q : dilution_good (exactly (pos 343039999)) (q_of 134) ≡ true
unfolding exactly
g-below-q = refl

-- "H at most 30": exactly 30 at 84,643 Pa, 100.0 percent and 3,900 Pa
h-of-30 : humidity_good 1000 3900 84643 ≡ true
unfolding humidity_good
h-of-30 = refl

h-above-30 : humidity_good 1000 3901 84643 ≡ false
unfolding humidity_good
h-above-30 = refl
