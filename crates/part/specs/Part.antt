-- One part of a test (01, Bag sheet and figures): its readings, and from them and its fields the volume, and each gas's mass and rate.
use Rattle.std.specs.Prelude.{Bool, cond, ℕ}
use Rattle.arith.specs.declared.Ends.{Ends}
use Rattle.bag.specs.Gas.{is_nox, is_nmhc}
use Rattle.bag.specs.Sheet.{density_at}
use Rattle.bag.specs.declared.Part.{Part}
use Rattle.bag.specs.declared.Triple.{Triple}
use Rattle.bag.specs.declared.Densities.{Densities}
use Rattle.stage.specs.Part.{gtr, volume_of, g_of, q_of, dilution_good, concentration_of, gas_volume_of, mass_of, humidity_good, kh_of, nox_mass_of, rate_of}
use Rattle.cutter.specs.declared.Cutter.{Cutter}
use Rattle.cutter.specs.NonMethane.{nmhc_of}
use Rattle.sides.specs.declared.Gases.{Gases}
use Rattle.sides.specs.declared.Sides.{Sides}
use Rattle.sides.specs.Gases.{ends_at, each}
use Rattle.part.specs.declared.PartResult.{PartResult}

-- "G = 10 CO2 + wc CO + wh HC in bag units"
abbrev pub g_in : Triple → Gases → Ends
g_in triple bag = g_of bag.co2 bag.co bag.hc triple.wc triple.wh

-- "G must be below Q", "judged on the upper end of G" (02, M-104)
abbrev pub diluted : Triple → Gases → Bool
diluted triple bag = dilution_good (g_in triple bag) (q_of triple.d)

abbrev pub dry_enough : Part → Bool
dry_enough p = humidity_good p.humidity p.saturation p.barometer

abbrev pub volume_in : Part → Ends
volume_in p = volume_of gtr p.pump p.revolutions p.barometer p.depression p.temperature

-- ---- the fifth gas (02, M-108), "worked in bag and in air before the dilution correction"
unfoldable pub with_nmhc : Cutter → Gases → Gases
with_nmhc c read = each (λ gas. cond (is_nmhc gas) (nmhc_of c read.hc read.nmhc) (ends_at gas read))

unfoldable pub staged_of : Cutter → Sides → Sides
staged_of c sides = record { bag = with_nmhc c sides.bag; air = with_nmhc c sides.air }

-- ---- from the concentration to the mass: the same stages for every gas
unfoldable pub gas_mass : Ends → Ends → Ends → Ends → ℕ → ℕ → Ends
gas_mass volume bag air g q density = mass_of (gas_volume_of volume (concentration_of bag air g q)) density

unfoldable pub masses_of : Ends → Sides → Ends → ℕ → Densities → Gases
masses_of volume sides g q density = each (λ gas. gas_mass volume (ends_at gas sides.bag) (ends_at gas sides.air) g q (density_at gas density))

-- "NOx: times Kh", and no other gas
unfoldable pub corrected_for : Ends → Gases → Gases
corrected_for kh mass = each (λ gas. cond (is_nox gas) (nox_mass_of (ends_at gas mass) kh) (ends_at gas mass))

unfoldable pub rates_of : Gases → ℕ → Gases
rates_of mass distance = each (λ gas. rate_of (ends_at gas mass) distance)

-- G stays on total HC: it is of what was read
unfoldable pub mass_in : Triple → Cutter → Part → Sides → Gases
mass_in triple c p sides =
    corrected_for (kh_of p.humidity p.saturation p.barometer)
    (masses_of (volume_in p) (staged_of c sides) (g_in triple sides.bag) (q_of triple.d) p.density)

unfoldable pub part_of : Triple → Cutter → Part → Sides → PartResult
part_of triple c p sides =
    record { volume = volume_in p; mass = mass_in triple c p sides; rate = rates_of (mass_in triple c p sides) p.distance }
