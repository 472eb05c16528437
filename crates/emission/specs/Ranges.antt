-- What the stages of the test ask, from what an accepted sheet and its readings tell.
use Rattle.std.specs.Prelude.{◌*◌}
use Rattle.arith.specs.Fitting.{Sized}
use Rattle.refusal.specs.declared.Gas.{Gas}
use Rattle.bag.specs.declared.BagSheet.{BagSheet}
use Rattle.bag.specs.Sound.{Tested}
use Rattle.weigh.specs.declared.Weights.{Weights}
use Rattle.weigh.specs.Ranges.{WeightedRanges}
use Rattle.sides.specs.declared.Gases.{Gases}
use Rattle.sides.specs.Gases.{ends_at}
use Rattle.part.specs.Ranges.{largest_mass_of}
use Rattle.emission.specs.declared.Parts.{Parts}

-- rates and weighted results
abbrev pub RateSizes : Gases → Type 0
RateSizes g = (gas : Gas) → Sized (10 * largest_mass_of gas) (ends_at gas g)

abbrev pub WeighRanges : Weights → Gases → Gases → Gases → Type 0
WeighRanges w first second third = (gas : Gas) → WeightedRanges w (ends_at gas first) (ends_at gas second) (ends_at gas third)

pub record ResultRanges (s : BagSheet) (parts : Parts) : Type 0 where
  pub tested : Tested s
  pub first_sizes : RateSizes parts.first.rate
  pub second_sizes : RateSizes parts.second.rate
  pub third_sizes : RateSizes parts.third.rate
