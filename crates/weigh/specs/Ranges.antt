-- What the stages of a test ask of what they are given: the weights of a class, the ranges of the fuel sheet, and how large rates can be.
use Rattle.std.specs.Prelude.{◌≡◌, ℕ, ◌+◌, ◌*◌, ◌≤◌}
use Rattle.arith.specs.declared.Ends.{Ends}
use Rattle.arith.specs.Fitting.{Sized}
use Rattle.bag.specs.Fields.{k_range, factor_range, fuel_density_range}
use Rattle.stage.specs.Ranges.{largest_mass, largest_rate}
use Rattle.weigh.specs.declared.Weights.{Weights}

pub record WeightedRanges (weights : Weights) (first second third : Ends) : Type 0 where
  pub whole : weights.first + weights.second + weights.third ≡ 100
  pub first_size : Sized largest_rate first
  pub second_size : Sized largest_rate second
  pub third_size : Sized largest_rate third

pub record FuelRanges (k f1 f2 f3 density : ℕ) (hc co co2 : Ends) : Type 0 where
  pub k_most : k ≤ k_range.most
  pub f1_most : f1 ≤ factor_range.most
  pub f2_most : f2 ≤ factor_range.most
  pub f3_most : f3 ≤ factor_range.most
  pub light : fuel_density_range.least ≤ density
  pub heavy : density ≤ fuel_density_range.most
  pub hc_size : Sized (10 * largest_mass) hc
  pub co_size : Sized (10 * largest_mass) co
  pub co2_size : Sized (10 * largest_mass) co2
