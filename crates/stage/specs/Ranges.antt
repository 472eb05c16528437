-- What the stages ask of what they are given: the ranges of the bag sheet's fields, and how large the ends from the stages before can be.
use Rattle.std.specs.Prelude.{◌≡◌, true, ℕ, ◌*◌, ◌≤◌, ℤ, pos, ◌≤ℤ◌}
use Rattle.arith.specs.declared.Ends.{Ends}
use Rattle.arith.specs.Fitting.{Sized}
use Rattle.reading.specs.Units.{most_units}
use Rattle.bag.specs.Fields.{most_pumped, barometer_range, depression_range, coldest, hottest, humidity_range, saturation_range, distance_range, density_range}
use Rattle.bag.specs.Fields.{d_range, w_range, factor_range}
use Rattle.stage.specs.Part.{q_of, dilution_good, humidity_good}

-- ends in order, from 0 to m
pub record UpTo (m : ℕ) (e : Ends) : Type 0 where
  pub least : pos 0 ≤ℤ e.lower
  pub ordered : e.lower ≤ℤ e.upper
  pub most : e.upper ≤ℤ pos m

-- ---- the largest of each: readings and G in 1/256 ppm, then ml, 1/4,096 ppm, microlitres, micrograms, 1/65,536, micrograms, micrograms/km
abbrev pub largest_reading : ℕ
largest_reading = most_units

-- what may enter the concentration has either sign, and up to twice a reading: 2^25. Then each stage after it gives up to four times as much, and the
-- largest product on that way, a volume times a concentration, is 1.5 x 10^18 of the 9.2 x 10^18 that 64 signed bits hold
abbrev pub largest_signed : ℕ
largest_signed = 2 * largest_reading

abbrev pub largest_g : ℕ
largest_g = 838860800

abbrev pub largest_volume : ℕ
largest_volume = 1364993400

abbrev pub largest_concentration : ℕ
largest_concentration = 268435456

abbrev pub largest_gas_volume : ℕ
largest_gas_volume = 89456207463

abbrev pub largest_mass : ℕ
largest_mass = 187858035673

abbrev pub largest_kh : ℕ
largest_kh = 179536

abbrev pub largest_nox_mass : ℕ
largest_nox_mass = 514637455637

-- of signed ends: ten times four times the largest mass. NOx's, with Kh, are at most 5,146,374,556,370
abbrev pub largest_rate : ℕ
largest_rate = 7514321426920

-- ---- what each stage asks
pub record CombinationRanges (j : ℕ) (a : Ends) (k : ℕ) (b : Ends) (l : ℕ) (c : Ends) : Type 0 where
  pub j_most : j ≤ factor_range.most
  pub k_most : k ≤ factor_range.most
  pub l_most : l ≤ factor_range.most
  pub a_size : Sized largest_rate a
  pub b_size : Sized largest_rate b
  pub c_size : Sized largest_rate c

pub record VolumeRanges (pump revolutions barometer depression : ℕ) (temperature : ℤ) : Type 0 where
  pub swept : pump * revolutions ≤ most_pumped
  pub low : barometer_range.least ≤ barometer
  pub high : barometer ≤ barometer_range.most
  pub inlet : depression ≤ depression_range.most
  pub cold : coldest ≤ℤ temperature
  pub hot : temperature ≤ℤ hottest

pub record GRanges (co2 co hc : Ends) (wc wh : ℕ) : Type 0 where
  pub co2_reading : UpTo largest_reading co2
  pub co_reading : UpTo largest_reading co
  pub hc_reading : UpTo largest_reading hc
  pub wc_most : wc ≤ w_range.most
  pub wh_most : wh ≤ w_range.most

pub record ConcentrationRanges (bag air g : Ends) (q : ℕ) : Type 0 where
  pub bag_size : Sized largest_signed bag
  pub air_size : Sized largest_signed air
  pub g_range : UpTo largest_g g
  pub good : dilution_good g q ≡ true
  pub q_most : q ≤ q_of d_range.most

pub record GasVolumeRanges (volume concentration : Ends) : Type 0 where
  pub volume_size : Sized largest_volume volume
  pub concentration_size : Sized (4 * largest_concentration) concentration

pub record MassRanges (gas : Ends) (density : ℕ) : Type 0 where
  pub gas_size : Sized (4 * largest_gas_volume) gas
  pub density_most : density ≤ density_range.most

pub record HumidityRanges (humidity saturation barometer : ℕ) : Type 0 where
  pub humidity_most : humidity ≤ humidity_range.most
  pub saturation_most : saturation ≤ saturation_range.most
  pub low : barometer_range.least ≤ barometer
  pub high : barometer ≤ barometer_range.most

pub record KhRanges (humidity saturation barometer : ℕ) : Type 0 where
  pub ranges : HumidityRanges humidity saturation barometer
  pub good : humidity_good humidity saturation barometer ≡ true

pub record NoxMassRanges (mass kh : Ends) : Type 0 where
  pub mass_size : Sized largest_mass mass
  pub kh_size : Sized largest_kh kh

pub record RateRanges (mass : Ends) (distance : ℕ) : Type 0 where
  pub mass_size : Sized (4 * largest_mass) mass
  pub distance_least : distance_range.least ≤ distance
