-- How large a part's readings, masses and rates can be, so that each stage is given what it asks. Assumes nothing.
use mathlib.Core.Path.{◌≡◌, refl, ap, ◌∙◌}
use mathlib.Core.Bool.{Bool, true, false, cond}
use Prim.Native.Nat.{ℕ, ◌*◌, ◌≤◌}
use native.Mathlib.Omega.{arith}
use Rattle.arith.specs.declared.Ends.{Ends}
use Rattle.arith.specs.Fitting.{Sized}
use Rattle.arith.proofs.Size.{wider-size}
use Rattle.refusal.specs.declared.Gas.{Gas}
use Rattle.refusal.specs.declared.Gas.TheVariants.{HC, CO, NOx, CO2, NMHC}
use Rattle.bag.specs.Gas.{is_nox, is_nmhc}
use Rattle.bag.specs.declared.Part.{Part}
use Rattle.bag.specs.declared.Triple.{Triple}
use Rattle.bag.proofs.Gas.{by-gas}
use Rattle.stage.specs.Part.{q_of, concentration_of, nox_mass_of}
use Rattle.stage.specs.Ranges.{VolumeRanges, GRanges, KhRanges}
use Rattle.stage.specs.Ranges.{largest_signed, largest_concentration, largest_mass, largest_kh}
use Rattle.stage.proofs.UpTo.{up_to-size}
use Rattle.stage.proofs.Sizes.{volume_size, g-up_to, signed-concentration-size, concentration_size, gas-volume-size, mass_size, kh_size, nox-mass-size}
use Rattle.cutter.specs.declared.Cutter.{Cutter}
use Rattle.cutter.specs.NonMethane.{nmhc_of}
use Rattle.cutter.specs.Ranges.{NmhcRanges}
use Rattle.cutter.proofs.Sizes.{nmhc-size}
use Rattle.sides.specs.declared.Gases.{Gases}
use Rattle.sides.specs.declared.Sides.{Sides}
use Rattle.sides.specs.Gases.{ends_at}
use Rattle.sides.proofs.Each.{each_at}
use Rattle.part.specs.Part.{g_in, volume_in, with_nmhc, staged_of, gas_mass, masses_of, corrected_for, mass_in}
use Rattle.part.specs.Ranges.{StagedRanges, GasRanges, MassesRanges, RatesRanges, times_of, largest_mass_of, DryMassSizes, MassSizes, PartRanges}

-- ---- masses
pub gas-mass-size : {volume bag air g : Ends} {q density : ℕ} (k : ℕ) → GasRanges volume bag air g q density →
    Sized (k * largest_concentration) (concentration_of bag air g q) → Sized (k * largest_mass) (gas_mass volume bag air g q density)
unfolding gas_mass
gas-mass-size k r c = mass_size k (gas-volume-size k r.volume_size c) r.density_most

-- Kh makes NOx larger, and no other gas
corrected-size : (gas : Gas) {mass kh : Ends} → Sized (times_of gas * largest_mass) mass → Sized largest_kh kh →
    Sized (largest_mass_of gas) (cond (is_nox gas) (nox_mass_of mass kh) mass)
corrected-size HC m k = m
corrected-size CO m k = m
corrected-size NOx m k = nox-mass-size (record { mass_size = m; kh_size = k })
corrected-size CO2 m k = m
corrected-size NMHC m k = m

-- what a rate may ask for: four times the largest mass of readings
rated : (gas : Gas) → largest_mass_of gas ≤ 4 * largest_mass
rated = by-gas (λ gas. largest_mass_of gas ≤ 4 * largest_mass) (omega arith) (omega arith) (omega arith) (omega arith) (omega arith)

-- ---- the ends that the stages take: of the fifth gas as large as its formula makes them, of the others as they were read
pub nmhc-ranges : {c : Cutter} {read : Gases} → StagedRanges c read → NmhcRanges c read.hc read.nmhc
nmhc-ranges r = record { ranged = r.ranged; good = r.good; hc_reading = r.sizes HC; behind_reading = r.sizes NMHC }

pub staged-at : (gas : Gas) (c : Cutter) (read : Gases) → ends_at gas (with_nmhc c read) ≡ cond (is_nmhc gas) (nmhc_of c read.hc read.nmhc) (ends_at gas read)
unfolding with_nmhc
staged-at gas c read = each_at gas _

staged-size : {c : Cutter} {read : Gases} → StagedRanges c read → (gas : Gas) → Sized largest_signed (ends_at gas (with_nmhc c read))
staged-size {c} {read} r gas = rw (staged-at gas) (go (is_nmhc gas))
  where
    go : (fifth : Bool) → Sized largest_signed (cond fifth (nmhc_of c read.hc read.nmhc) (ends_at gas read))
    go true = nmhc-size (nmhc-ranges r)
    go false = wider-size (omega arith) (up_to-size (r.sizes gas))

-- and of a gas that was read, they are what was read
pub staged-read : (c : Cutter) (read : Gases) (gas : Gas) → is_nmhc gas ≡ false → ends_at gas (with_nmhc c read) ≡ ends_at gas read
staged-read c read gas e = staged-at gas c read ∙ ap (λ (fifth : Bool). cond fifth (nmhc_of c read.hc read.nmhc) (ends_at gas read)) e

module _ {triple : Triple} {c : Cutter} {p : Part} {sides : Sides} (r : PartRanges triple c p sides) where
  pub bag-staged : StagedRanges c sides.bag
  bag-staged = record { ranged = r.cutter_ranged; good = r.cutter_good; sizes = r.bag_sizes }

  pub air-staged : StagedRanges c sides.air
  air-staged = record { ranged = r.cutter_ranged; good = r.cutter_good; sizes = r.air_sizes }

  pub volume-ranges : VolumeRanges p.pump p.revolutions p.barometer p.depression p.temperature
  volume-ranges =
      let f = r.ranged in
      record {
        swept = f.pumped;
        low = f.barometer.0;
        high = f.barometer.1;
        inlet = f.depression.1;
        cold = f.temperature.0;
        hot = f.temperature.1;
      }

  pub kh-ranges : KhRanges p.humidity p.saturation p.barometer
  kh-ranges =
      let f = r.ranged in
      record {
        ranges =
            record {
              humidity_most = f.humidity.1;
              saturation_most = f.saturation.1;
              low = f.barometer.0;
              high = f.barometer.1;
            };
        good = r.humidity;
      }

  g-ranges : GRanges sides.bag.co2 sides.bag.co sides.bag.hc triple.wc triple.wh
  g-ranges =
      let b = r.bag_sizes in
      let t = r.triple_ranged in
      record { co2_reading = b CO2; co_reading = b CO; hc_reading = b HC; wc_most = t.wc.1; wh_most = t.wh.1 }

  pub masses-ranges : MassesRanges (volume_in p) (staged_of c sides) (g_in triple sides.bag) (q_of triple.d) p.density
  unfolding staged_of
  masses-ranges gas =
      record {
        volume_size = volume_size volume-ranges;
        ranges =
            record {
              bag_size = staged-size bag-staged gas;
              air_size = staged-size air-staged gas;
              g_range = g-up_to g-ranges;
              good = r.dilution;
              q_most = omega (arith, r.triple_ranged.d.1);
            };
        density_most = (r.ranged.density gas).1;
      }

  pub concentration-sizes : (gas : Gas) →
      let s = staged_of c sides in
      Sized (times_of gas * largest_concentration) (concentration_of (ends_at gas s.bag) (ends_at gas s.air) (g_in triple sides.bag) (q_of triple.d))
  unfolding staged_of
  concentration-sizes gas = go (is_nmhc gas) (staged-read c sides.bag gas) (staged-read c sides.air gas)
    where
      bag : Ends
      bag = ends_at gas (with_nmhc c sides.bag)

      air : Ends
      air = ends_at gas (with_nmhc c sides.air)

      go : (fifth : Bool) → (fifth ≡ false → bag ≡ ends_at gas sides.bag) → (fifth ≡ false → air ≡ ends_at gas sides.air) →
          Sized (cond fifth 4 1 * largest_concentration) (concentration_of bag air (g_in triple sides.bag) (q_of triple.d))
      go true b a = signed-concentration-size (masses-ranges gas).ranges
      go false b a = concentration_size (masses-ranges gas).ranges (rw (b refl) (r.bag_sizes gas)) (rw (a refl) (r.air_sizes gas))

  pub masses-sizes : DryMassSizes (masses_of (volume_in p) (staged_of c sides) (g_in triple sides.bag) (q_of triple.d) p.density)
  unfolding masses_of
  masses-sizes gas = rw (each_at gas) (gas-mass-size (times_of gas) (masses-ranges gas) (concentration-sizes gas))

  pub mass-in-sizes : MassSizes (mass_in triple c p sides)
  unfolding mass_in corrected_for
  mass-in-sizes gas = rw (each_at gas) (corrected-size gas (masses-sizes gas) (kh_size kh-ranges))

  pub rates-ranges : RatesRanges (mass_in triple c p sides) p.distance
  rates-ranges gas = record { mass_size = wider-size (rated gas) (mass-in-sizes gas); distance_least = r.ranged.distance.0 }
