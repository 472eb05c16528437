-- Demand 3, containment: for every sheet that is answered with a result, each exact figure that is printed is between its ends: the volume of each part
-- of the class, the mass and the rate of each gas there, its weighted rate, and the fuel. The laws of the stages, composed. Assumes nothing.
use mathlib.Core.Path.{◌≡◌, refl}
use mathlib.Core.Bool.{Bool, true, false, not, cond, ◌||◌}
use Prim.Native.Nat.{◌+◌, ◌*◌, ◌≤◌}
use native.Mathlib.Omega.{arith}
use lib.Dec.{eqb}
use borrow.Author.Tests.{leb-true, eqb-true, eq-eqb, ne_eqb}
use lib.IntN.{pos}
use Rattle.arith.specs.Fraction.{Fraction, Between, ◌*ᶠ◌}
use Rattle.arith.proofs.Enclosure.{exactly-holds}
use Rattle.refusal.specs.declared.Gas.{Gas}
use Rattle.refusal.specs.declared.Gas.TheVariants.{HC, CO, CO2, NMHC}
use Rattle.bag.specs.Gas.{is_nox, is_nmhc}
use Rattle.bag.specs.declared.Part.{Part}
use Rattle.bag.specs.declared.Triple.{Triple}
use Rattle.bag.specs.declared.Efficiencies.{Efficiencies}
use Rattle.bag.specs.declared.BagSheet.{BagSheet}
use Rattle.bag.specs.Sheet.{density_at}
use Rattle.bag.specs.Sound.{Tested}
use Rattle.bag.proofs.Sound.{accepted-sound}
use Rattle.stage.specs.Part.{q_of, concentration_of, nox_mass_of}
use Rattle.weigh.specs.Test.{weights_of}
use Rattle.cutter.specs.NonMethane.{cutter_of, nmhc_of}
use Rattle.sides.specs.declared.Gases.{Gases}
use Rattle.sides.specs.declared.Sides.{Sides}
use Rattle.sides.specs.declared.TestSides.{TestSides}
use Rattle.sides.specs.Gases.{ends_at, nothing}
use Rattle.sides.proofs.Each.{each_at}
use Rattle.part.specs.Part.{g_in, gas_mass, mass_in, rates_of, part_of}
use Rattle.part.specs.Ranges.{PartRanges}
use Rattle.part.proofs.Sizes.{volume-ranges, kh-ranges}
use Rattle.late.specs.Ranges.{PartsRanges}
use Rattle.late.proofs.Late.{parts-ranges}
use Rattle.emission.specs.declared.Parts.{Parts}
use Rattle.emission.specs.declared.TestResult.{TestResult}
use Rattle.std.specs.Prelude.{Ok}
use Rattle.emission.specs.Test.{no_part, third_part, parts_in, weighted_gases, result_of, test_answer}
use Rattle.claims.specs.Exact.{PartPpm, TestPpm, TestMeasured, has, count, exact_g, exact_non_methane, exact_in, exact_concentration, exact_gas_volume, exact_dry_mass}
use Rattle.claims.specs.Exact.{exact_kh, exact_mass, exact_rate, exact_third, percent_of, exact_weighted, exact_fuel}
use Rattle.claims.specs.Statements.{PartContained, Contained}
use Rattle.claims.proofs.Accepted.{accepted-result}
use Rattle.claims.proofs.Scales.{In}
use Rattle.claims.proofs.Readings.{ReadAs, read_as, TestFitted, test-fitted, TestRead, test_read}
use Rattle.claims.proofs.Gases.{staged_at, dry_mass_in, kh_in, mass-at}
use Rattle.claims.proofs.Stages.{volume-holds, g-holds, non-methane-holds, concentration-holds, gas-volume-holds, mass-holds, kh-holds, nox-mass-holds}
use Rattle.claims.proofs.Stages.{rate-holds, percent-is, weighted-holds, fuel-holds}

-- ---- a bag, or the air: the first four as they were read, the fifth by the formula
module _ (s : BagSheet) {read : Gases} {x : Gas → Fraction} (h : (gas : Gas) → has s gas ≡ true → In 256 (ends_at gas read) (x gas))
    (ranged : s.efficiencies.methane ≤ 1000) (far : (cutter_of s).fitted ≡ true → s.efficiencies.methane + 500 ≤ s.efficiencies.ethane) where
  nmhc-in : (cutter_of s).fitted ≡ true → In 256 (nmhc_of (cutter_of s) read.hc read.nmhc) (exact_non_methane s.efficiencies (x HC) (x NMHC))
  unfolding nmhc_of cutter_of
  nmhc-in fitted = let f = far fitted in rw fitted (non-methane-holds s.efficiencies ranged (omega arith) (h HC refl) (h NMHC fitted))

  staged-in : (gas : Gas) → has s gas ≡ true → In 256 (staged_at gas (cutter_of s) read) (exact_in gas s.efficiencies x)
  staged-in gas there = go (is_nmhc gas) there (h gas there)
    where
      go : (fifth : Bool) → (not fifth || (cutter_of s).fitted) ≡ true → In 256 (ends_at gas read) (x gas) →
          In 256 (cond fifth (nmhc_of (cutter_of s) read.hc read.nmhc) (ends_at gas read)) (cond fifth (exact_non_methane s.efficiencies (x HC) (x NMHC)) (x gas))
      go true fitted as_read = nmhc-in fitted
      go false fitted as_read = as_read

-- ---- a part
module _ {s : BagSheet} {p : Part} {sides : Sides} {x : PartPpm} (read : ReadAs s sides x) (r : PartRanges s.triple (cutter_of s) p sides) where
  abbrev t : Triple
  t = s.triple

  abbrev e : Efficiencies
  e = s.efficiencies

  g-in : In 256 (g_in t sides.bag) (exact_g t x)
  unfolding exact_g
  g-in = g-holds t.wc t.wh (read.bag CO2 refl) (read.bag CO refl) (read.bag HC refl)

  -- past 19
  far : (cutter_of s).fitted ≡ true → e.methane + 500 ≤ e.ethane
  unfolding cutter_of
  far fitted = leb-true (e.methane + 500) e.ethane (r.cutter_good fitted)

  most : e.methane ≤ 1000
  unfolding cutter_of
  most = r.cutter_ranged.methane.1

  -- the core's Q is 256 times the exact one
  concentration-in : (gas : Gas) → has s gas ≡ true →
      In 4096 (concentration_of (staged_at gas (cutter_of s) sides.bag) (staged_at gas (cutter_of s) sides.air) (g_in t sides.bag) (q_of t.d)) (exact_concentration gas t e x)
  unfolding exact_concentration
  concentration-in gas there =
      let q : q_of t.d ≡ 256 * (10000 * t.d) = omega arith in
      let d = r.triple_ranged.d.0 in
      rw q (concentration-holds (10000 * t.d) (omega arith) (staged-in s read.bag most far gas there) (staged-in s read.air most far gas there) g-in)

  dry-mass : (gas : Gas) → has s gas ≡ true → Between (dry_mass_in gas t (cutter_of s) p sides) (exact_dry_mass gas t e p x)
  unfolding gas_mass exact_dry_mass exact_gas_volume
  dry-mass gas there = mass-holds (density_at gas p.density) (gas-volume-holds (volume-holds p (volume-ranges r)) (concentration-in gas there))

  mass-in : (gas : Gas) → has s gas ≡ true → Between (ends_at gas (mass_in t (cutter_of s) p sides)) (exact_mass gas t e p x)
  unfolding exact_mass
  mass-in gas there = rw (mass-at gas) (go (is_nox gas))
    where
      go : (b : Bool) → Between (cond b (nox_mass_of (dry_mass_in gas t (cutter_of s) p sides) (kh_in p)) (dry_mass_in gas t (cutter_of s) p sides))
          (cond b (exact_dry_mass gas t e p x *ᶠ exact_kh p) (exact_dry_mass gas t e p x))
      go true = nox-mass-holds (exact_kh p) (dry-mass gas there) (kh-holds p (kh-ranges r))
      go false = dry-mass gas there

  rate-in : (gas : Gas) → has s gas ≡ true → Between (ends_at gas (part_of t (cutter_of s) p sides).rate) (exact_rate gas t e p x)
  unfolding part_of rates_of exact_rate
  rate-in gas there = rw (each_at gas) (rate-holds p.distance (omega (arith, r.ranged.distance.0)) (mass-in gas there))

  part_in : PartContained s p x (part_of t (cutter_of s) p sides)
  unfolding part_of
  part_in = record { volume = volume-holds p (volume-ranges r); mass = mass-in; rate = rate-in }

-- ---- the test
module _ {s : BagSheet} {readings : TestSides} {x : TestPpm} (t : Tested s) (read : TestRead s readings) (m : TestMeasured s x) (r : PartsRanges s (cutter_of s) readings) where
  abbrev parts : Parts
  parts = parts_in s (cutter_of s) readings

  abbrev result : TestResult
  result = result_of s (cutter_of s).fitted parts

  fitted : TestFitted s
  fitted = test-fitted s

  third-as : s.class ≡ 3 → ReadAs s readings.third x.third
  third-as three = read_as 3 s s.third (fitted.third three) (read.third three) (m.third three)

  first-in : PartContained s s.first x.first parts.first
  unfolding parts_in
  first-in = part_in (read_as 1 s s.first fitted.first read.first m.first) r.first

  second-in : PartContained s s.second x.second parts.second
  unfolding parts_in
  second-in = part_in (read_as 2 s s.second fitted.second read.second m.second) r.second

  third-in : s.class ≡ 3 → PartContained s s.third x.third parts.third
  unfolding parts_in third_part
  third-in three = rw (eq-eqb s.class 3 three) (part_in (third-as three) (r.third three))

  no_third_lem : (s.class ≡ 3 → ⊥) → parts.third ≡ no_part
  unfolding parts_in third_part
  no_third_lem other = rw (ne_eqb s.class 3 other)

  -- the third part's rate is weighed whether the class has it or not
  third-rate : (gas : Gas) → has s gas ≡ true → Between (ends_at gas parts.third.rate) (exact_third gas s x)
  unfolding parts_in third_part nothing exact_third
  third-rate gas there = go (eqb s.class 3) (eqb-true s.class 3)
    where
      go : (b : Bool) → (b ≡ true → s.class ≡ 3) →
          Between (ends_at gas (cond b (part_of s.triple (cutter_of s) s.third readings.third) no_part).rate)
          (cond b (exact_rate gas s.triple s.efficiencies s.third x.third) (count 0))
      go true f = rate-in (third-as (f refl)) (r.third (f refl)) gas there
      go false f = rw (each_at gas) (exactly-holds (pos 0))

  weighted-in : (gas : Gas) → has s gas ≡ true → Between (ends_at gas result.weighted) (exact_weighted gas s x)
  unfolding result_of weighted_gases exact_weighted
  weighted-in gas there =
      rw (each_at gas)
      (weighted-holds (weights_of s.class) (percent_of s.class) (percent-is s.class t.class.0 t.class.1)
      (first-in.rate gas there) (second-in.rate gas there) (third-rate gas there))

  fuel-in : Between result.fuel (exact_fuel s x)
  unfolding result_of exact_fuel
  fuel-in =
      let f = s.fuel in
      fuel-holds f.k f.hc f.co f.co2 f.density (omega (arith, t.fuel.density.0))
      (weighted-in HC refl) (weighted-in CO refl) (weighted-in CO2 refl)

  result-in : Contained s x result
  unfolding result_of
  result-in = record { first = first-in; second = second-in; third = third-in; no_third = no_third_lem; weighted = weighted-in; fuel = fuel-in }

pub contained : (s : BagSheet) (x : TestPpm) (r : TestResult) → test_answer s ≡ Ok r → TestMeasured s x → Contained s x r
contained s x r e m =
    let a = accepted-result e in
    let sound = accepted-sound s a.sheet in
    rw a.result (result-in sound.tested (test_read a.read) m (parts-ranges sound a.read a.late))
