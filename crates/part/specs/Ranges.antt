-- What the stages of a part ask, from what an accepted sheet and its readings tell.
use Rattle.std.specs.Prelude.{◌≡◌, true, cond, ℕ, ◌*◌, ◌≤◌}
use Rattle.arith.specs.declared.Ends.{Ends}
use Rattle.arith.specs.Fitting.{Sized}
use Rattle.refusal.specs.declared.Gas.{Gas}
use Rattle.bag.specs.Gas.{is_nox, is_nmhc}
use Rattle.bag.specs.declared.Part.{Part}
use Rattle.bag.specs.declared.Triple.{Triple}
use Rattle.bag.specs.declared.Densities.{Densities}
use Rattle.bag.specs.Fields.{density_range}
use Rattle.bag.specs.Sheet.{density_at}
use Rattle.bag.specs.Sound.{Ranged, RangedTriple, RangedEfficiencies}
use Rattle.stage.specs.Ranges.{ConcentrationRanges, RateRanges, largest_volume, largest_mass, largest_nox_mass}
use Rattle.cutter.specs.declared.Cutter.{Cutter}
use Rattle.cutter.specs.NonMethane.{efficient}
use Rattle.sides.specs.declared.Gases.{Gases}
use Rattle.sides.specs.declared.Sides.{Sides}
use Rattle.sides.specs.Gases.{ends_at}
use Rattle.sides.specs.Ranges.{ReadingSizes}
use Rattle.part.specs.Part.{diluted, dry_enough}

-- ---- the fifth gas: the efficiencies are far enough apart where the test has it
pub record StagedRanges (c : Cutter) (read : Gases) : Type 0 where
  pub ranged : RangedEfficiencies c.efficiencies
  pub good : c.fitted ≡ true → efficient c.efficiencies ≡ true
  pub sizes : ReadingSizes read

-- ---- what a stage asks of a gas, and of every gas
pub record GasRanges (volume bag air g : Ends) (q density : ℕ) : Type 0 where
  pub volume_size : Sized largest_volume volume
  pub ranges : ConcentrationRanges bag air g q
  pub density_most : density ≤ density_range.most

abbrev pub MassesRanges : Ends → Sides → Ends → ℕ → Densities → Type 0
MassesRanges volume sides g q density =
    (gas : Gas) → GasRanges volume (ends_at gas sides.bag) (ends_at gas sides.air) g q (density_at gas density)

abbrev pub RatesRanges : Gases → ℕ → Type 0
RatesRanges mass distance = (gas : Gas) → RateRanges (ends_at gas mass) distance

-- ---- masses before Kh, and after. The fifth gas comes of signed ends, which may be four times as large at the end
abbrev pub times_of : Gas → ℕ
times_of gas = cond (is_nmhc gas) 4 1

abbrev pub DryMassSizes : Gases → Type 0
DryMassSizes g = (gas : Gas) → Sized (times_of gas * largest_mass) (ends_at gas g)

abbrev pub largest_mass_of : Gas → ℕ
largest_mass_of gas = cond (is_nox gas) largest_nox_mass (times_of gas * largest_mass)

abbrev pub MassSizes : Gases → Type 0
MassSizes g = (gas : Gas) → Sized (largest_mass_of gas) (ends_at gas g)

-- ---- a part past refusals 11 to 14 and 19
pub record PartRanges (triple : Triple) (c : Cutter) (p : Part) (sides : Sides) : Type 0 where
  pub triple_ranged : RangedTriple triple
  pub cutter_ranged : RangedEfficiencies c.efficiencies
  pub ranged : Ranged p
  pub bag_sizes : ReadingSizes sides.bag
  pub air_sizes : ReadingSizes sides.air
  pub dilution : diluted triple sides.bag ≡ true
  pub humidity : dry_enough p ≡ true
  pub cutter_good : c.fitted ≡ true → efficient c.efficiencies ≡ true
