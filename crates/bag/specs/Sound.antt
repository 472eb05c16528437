-- What an accepted bag sheet tells of its numbers, for the stages that stand on it (01, Bag sheet and figures, the table).
use Rattle.std.specs.Prelude.{◌≡◌, ◌*◌, ◌≤◌, ◌≤ℤ◌}
use Rattle.refusal.specs.declared.Gas.{Gas}
use Rattle.bag.specs.declared.Part.{Part}
use Rattle.bag.specs.declared.Triple.{Triple}
use Rattle.bag.specs.declared.Fuel.{Fuel}
use Rattle.bag.specs.declared.Limits.{Limits}
use Rattle.bag.specs.declared.Efficiencies.{Efficiencies}
use Rattle.bag.specs.declared.BagSheet.{BagSheet}
use Rattle.bag.specs.Fields.{Within, pump_range, revolutions_range, most_pumped, barometer_range, depression_range, coldest, hottest, humidity_range}
use Rattle.bag.specs.Fields.{saturation_range, distance_range, density_range, d_range, w_range, k_range, factor_range, fuel_density_range, most_limit, efficiency_range}
use Rattle.bag.specs.Sheet.{parts_of, density_at, limit_at}

-- fields 1 to 9 of a part
pub record Ranged (p : Part) : Type 0 where
  pub pump : Within pump_range p.pump
  pub revolutions : Within revolutions_range p.revolutions
  pub pumped : p.pump * p.revolutions ≤ most_pumped
  pub barometer : Within barometer_range p.barometer
  pub depression : Within depression_range p.depression
  pub temperature : (coldest ≤ℤ p.temperature) × (p.temperature ≤ℤ hottest)
  pub humidity : Within humidity_range p.humidity
  pub saturation : Within saturation_range p.saturation
  pub distance : Within distance_range p.distance
  pub density : (gas : Gas) → Within density_range (density_at gas p.density)

-- fields 10 to 13
pub record RangedTriple (t : Triple) : Type 0 where
  pub d : Within d_range t.d
  pub wc : Within w_range t.wc
  pub wh : Within w_range t.wh

pub record RangedFuel (f : Fuel) : Type 0 where
  pub k : Within k_range f.k
  pub hc : Within factor_range f.hc
  pub co : Within factor_range f.co
  pub co2 : Within factor_range f.co2
  pub density : Within fuel_density_range f.density

abbrev pub RangedLimits : Limits → Type 0
RangedLimits l = (gas : Gas) → limit_at gas l ≤ most_limit

pub record RangedEfficiencies (e : Efficiencies) : Type 0 where
  pub methane : Within efficiency_range e.methane
  pub ethane : Within efficiency_range e.ethane

-- the class, and the test's fields
pub record Tested (s : BagSheet) : Type 0 where
  pub class : (1 ≤ s.class) × (s.class ≤ 3)
  pub parts : s.parts ≡ parts_of s.class
  pub triple : RangedTriple s.triple
  pub fuel : RangedFuel s.fuel
  pub limits : RangedLimits s.limits
  pub efficiencies : RangedEfficiencies s.efficiencies

pub record Sound (s : BagSheet) : Type 0 where
  pub tested : Tested s
  pub first : Ranged s.first
  pub second : Ranged s.second
  pub third : s.class ≡ 3 → Ranged s.third
