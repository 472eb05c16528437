-- A part's mass of each gas, from the stages. Assumes nothing.
use mathlib.Core.Path.{◌≡◌}
use mathlib.Core.Bool.{cond}
use Rattle.arith.specs.declared.Ends.{Ends}
use Rattle.refusal.specs.declared.Gas.{Gas}
use Rattle.bag.specs.Gas.{is_nox, is_nmhc}
use Rattle.bag.specs.declared.Part.{Part}
use Rattle.bag.specs.declared.Triple.{Triple}
use Rattle.bag.specs.Sheet.{density_at}
use Rattle.stage.specs.Part.{q_of, kh_of, nox_mass_of}
use Rattle.cutter.specs.declared.Cutter.{Cutter}
use Rattle.cutter.specs.NonMethane.{nmhc_of}
use Rattle.sides.specs.declared.Gases.{Gases}
use Rattle.sides.specs.declared.Sides.{Sides}
use Rattle.sides.specs.Gases.{ends_at}
use Rattle.sides.proofs.Each.{each_at}
use Rattle.part.specs.Part.{g_in, volume_in, staged_of, gas_mass, masses_of, corrected_for, mass_in}
use Rattle.part.proofs.Sizes.{staged-at}

-- of a bag or of the air, before the dilution correction
abbrev pub staged_at : Gas → Cutter → Gases → Ends
staged_at gas c read = cond (is_nmhc gas) (nmhc_of c read.hc read.nmhc) (ends_at gas read)

abbrev pub dry_mass_in : Gas → Triple → Cutter → Part → Sides → Ends
dry_mass_in gas t c p sides =
    gas_mass (volume_in p) (staged_at gas c sides.bag) (staged_at gas c sides.air) (g_in t sides.bag) (q_of t.d) (density_at gas p.density)

abbrev pub kh_in : Part → Ends
kh_in p = kh_of p.humidity p.saturation p.barometer

pub mass-at : (gas : Gas) (t : Triple) (c : Cutter) (p : Part) (sides : Sides) →
    ends_at gas (mass_in t c p sides) ≡ cond (is_nox gas) (nox_mass_of (dry_mass_in gas t c p sides) (kh_in p)) (dry_mass_in gas t c p sides)
unfolding mass_in masses_of corrected_for staged_of
mass-at gas t c p sides = rw (each_at gas, each_at gas, staged-at gas c sides.bag, staged-at gas c sides.air)
