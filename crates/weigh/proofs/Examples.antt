-- The stages of a test by computation, where an edge decides. 01's known figures are in claims. Assumes nothing.
use mathlib.Core.Path.{◌≡◌, refl}
use lib.IntN.{ℤ, pos}
use Rattle.arith.specs.declared.Ends.{Ends}
use Rattle.arith.specs.Rounding.{div_down, div_up}
use Rattle.arith.specs.Stages.{exactly, sum_of, scaled_by, divided_by}
use Rattle.stage.specs.Combination.{combination_of}
use Rattle.weigh.specs.declared.Verdict.TheVariants.{Pass, Fail, Undecided}
use Rattle.weigh.specs.Test.{weights_of, weighted_of, fuel_of, verdict_of}

abbrev ends : ℤ → ℤ → Ends
ends lower upper = record { lower = lower; upper = upper }

-- class 3: 25, 50 and 25 percent of 4, 40 and 400
class-3 : weighted_of (weights_of 3) (exactly (pos 4)) (exactly (pos 40)) (exactly (pos 400)) ≡ exactly (pos 121)
unfolding weighted_of combination_of sum_of scaled_by divided_by div_down div_up exactly
class-3 = refl

-- 1 from HC, 2 from CO and 4 from CO2, at k 0.1 and 1,000 g/l
each-factor : fuel_of 1000 100 10 1 1000 (exactly (pos 100)) (exactly (pos 2000)) (exactly (pos 40000)) ≡ exactly (pos 7)
unfolding fuel_of combination_of sum_of scaled_by divided_by div_down div_up exactly
each-factor = refl

-- a limit at the upper end passes, at the lower end is undecided, below it fails
at-the-upper : verdict_of (ends (pos 7) (pos 9)) 9 ≡ Pass
unfolding verdict_of
at-the-upper = refl

at-the-lower : verdict_of (ends (pos 7) (pos 9)) 7 ≡ Undecided
unfolding verdict_of
at-the-lower = refl

below-the-lower : verdict_of (ends (pos 7) (pos 9)) 6 ≡ Fail
unfolding verdict_of
below-the-lower = refl
