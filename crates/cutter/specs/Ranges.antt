-- What the formula asks: efficiencies that are far enough apart, and readings.
use Rattle.std.specs.Prelude.{◌≡◌, true}
use Rattle.arith.specs.declared.Ends.{Ends}
use Rattle.bag.specs.declared.Efficiencies.{Efficiencies}
use Rattle.bag.specs.Sound.{RangedEfficiencies}
use Rattle.stage.specs.Ranges.{UpTo, largest_reading}
use Rattle.cutter.specs.declared.Cutter.{Cutter}
use Rattle.cutter.specs.NonMethane.{efficient}

pub record NonMethaneRanges (e : Efficiencies) (hc behind : Ends) : Type 0 where
  pub ranged : RangedEfficiencies e
  pub good : efficient e ≡ true
  pub hc_reading : UpTo largest_reading hc
  pub behind_reading : UpTo largest_reading behind

-- they are far enough apart where the test has the fifth gas
pub record NmhcRanges (c : Cutter) (hc behind : Ends) : Type 0 where
  pub ranged : RangedEfficiencies c.efficiencies
  pub good : c.fitted ≡ true → efficient c.efficiencies ≡ true
  pub hc_reading : UpTo largest_reading hc
  pub behind_reading : UpTo largest_reading behind
