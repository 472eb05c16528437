-- Demand 3, widths, of the first four gases: where each part of the class covers at least 1,000 m and has at most 200 cubic metres, the weighted ends of HC, CO and CO2 are at
-- most 8,962 apart, and those of NOx at most 25,817 where both ends of its concentration are within 256 ppm of zero; asked are 10,000 and 30,000
-- (02, M-104). Assumes nothing.
use mathlib.Core.Path.{◌≡◌, refl, ap}
use mathlib.Core.Bool.{Bool, true, false, cond}
use Prim.Native.Nat.{ℕ, suc, ◌+◌, ◌*◌, ◌≤◌}
use native.Mathlib.Nat.{mul-le-mul_right}
use native.Mathlib.Omega.{arith}
use lib.Dec.{eqb}
use borrow.Author.Tests.{eqb-true}
use lib.IntN.{ℤ, pos, negsuc, ◌*ℤ◌}
use lib.Signed.{◌≤ℤ◌, ◌<ℤ◌}
use Rattle.arith.specs.declared.Ends.{Ends}
use Rattle.arith.specs.Rounding.{div_down}
use Rattle.arith.specs.Stages.{exactly, scaled_by, divided_by}
use Rattle.arith.specs.Fitting.{Sized, Narrow}
use Rattle.arith.proofs.Parts.{zs, mul-parts}
use Rattle.arith.proofs.Size.{abs-parts, wider-size, product-size, scaled-size, divided-size}
use Rattle.arith.proofs.Width.{exactly-narrow, wider-narrow, sum-narrow, difference-narrow, scaled-narrow, product_narrow, divided-narrow}
use Rattle.std.specs.Prelude.{Ok, Result}
use Rattle.refusal.specs.declared.Gas.{Gas}
use Rattle.refusal.specs.declared.Gas.TheVariants.{HC, CO, CO2}
use Rattle.refusal.specs.declared.Refusal.{Refusal}
use Rattle.bag.specs.Gas.{is_nox, is_nmhc}
use Rattle.bag.specs.declared.Part.{Part}
use Rattle.bag.specs.declared.Triple.{Triple}
use Rattle.bag.specs.declared.BagSheet.{BagSheet}
use Rattle.bag.specs.Fields.{density_range}
use Rattle.bag.specs.Sheet.{density_at}
use Rattle.bag.specs.Sound.{Tested}
use Rattle.bag.proofs.Sound.{accepted-sound}
use Rattle.weigh.specs.declared.Weights.{Weights}
use Rattle.stage.specs.Combination.{combination_of}
use Rattle.stage.specs.Part.{gtr, kelvin_of, volume_of, g_of, q_of, concentration_of, gas_volume_of, mass_of, kh_of, nox_mass_of, rate_of}
use Rattle.weigh.specs.Test.{weights_of, weighted_of}
use Rattle.stage.specs.Ranges.{UpTo, ConcentrationRanges, largest_reading, largest_concentration}
use Rattle.stage.proofs.UpTo.{up_to-size}
use Rattle.stage.proofs.Steps.{kelvin-least, rest-up_to, vapour-most, divisor-least}
use Rattle.stage.proofs.Sizes.{concentration_size, kh_size}
use Rattle.weigh.proofs.Sizes.{weights-whole}
use Rattle.cutter.specs.declared.Cutter.{Cutter}
use Rattle.cutter.specs.NonMethane.{cutter_of}
use Rattle.sides.specs.declared.Sides.{Sides}
use Rattle.sides.specs.declared.TestSides.{TestSides}
use Rattle.sides.specs.Gases.{ends_at, nothing}
use Rattle.sides.specs.ReadIn.{read_in}
use Rattle.sides.proofs.Each.{each_at}
use Rattle.part.specs.Part.{g_in, volume_in, staged_of, gas_mass, mass_in, rates_of, part_of}
use Rattle.part.specs.Ranges.{PartRanges}
use Rattle.part.proofs.Sizes.{volume-ranges, staged-read, masses-ranges, kh-ranges}
use Rattle.emission.specs.declared.TestResult.{TestResult}
use Rattle.late.specs.Late.{judge_late}
use Rattle.late.specs.Ranges.{PartsRanges}
use Rattle.late.proofs.Late.{parts-ranges}
use Rattle.emission.specs.Test.{no_part, third_part, parts_in, weighted_gases, result_of, test_answer}
use Rattle.claims.specs.Statements.{concentration_in, Ordinary, OrdinaryTest, width_of, proven_width}
use Rattle.claims.proofs.Accepted.{accepted-result}
use Rattle.claims.proofs.Readings.{NarrowSides, read-narrow, TestRead, test_read}
use Rattle.claims.proofs.Gases.{kh_in, mass-at}

-- an exact number divided once is one apart
quotient-narrow : {a : Ends} (d : ℤ) → pos 0 <ℤ d → Narrow 0 a → Narrow 1 (divided_by a d)
quotient-narrow (pos d) p h = divided-narrow {q = 0} d (omega zs) (wider-narrow (omega arith) h)
quotient-narrow (negsuc d) p h = absurd p.lt

-- ---- one law a stage
combination-narrow : {w : ℕ} {a b c : Ends} (j k l : ℕ) →
    Narrow w a → Narrow w b → Narrow w c → Narrow (j * w + k * w + l * w) (combination_of j a k b l c)
unfolding combination_of
combination-narrow {w} j k l a b c = sum-narrow (sum-narrow (times j a) (times k b)) (times l c)
  where
    times : {e : Ends} (n : ℕ) → Narrow w e → Narrow (n * w) (scaled_by (pos n) e)
    times n h = scaled-narrow {m = n} (pos n) (omega arith) h

-- Q is at least 256,000,000: bag Q is Q wide, air (Q − G) is 16,777,216 x 50 + Q, and 16 (2 Q + 838,860,800) is at most 85 Q
concentration-narrow : {bag air g : Ends} {q : ℕ} → 256000000 ≤ q → ConcentrationRanges bag air g q → UpTo largest_reading air →
    Narrow 1 bag → Narrow 1 air → Narrow 50 g → Narrow 86 (concentration_of bag air g q)
unfolding concentration_of
concentration-narrow {q = q} h r most bag air g =
    let from-bag = scaled-narrow {m = q} (pos q) (omega arith) bag in
    let from-air = product_narrow (up_to-size most) (up_to-size (rest-up_to r)) air (difference-narrow (exactly-narrow (pos q)) g) in
    let net = scaled-narrow {m = 16} (pos 16) (omega arith) (difference-narrow from-bag from-air) in
    divided-narrow {q = 85} q (omega arith) (wider-narrow (omega arith) net)

gas-volume-narrow :
    {volume concentration : Ends} (c w : ℕ) → 200000000 * 86 + c ≤ 4096000 * w →
    Sized 200000000 volume → Sized c concentration → Narrow 1 volume → Narrow 86 concentration → Narrow (suc w) (gas_volume_of volume concentration)
unfolding gas_volume_of
gas-volume-narrow c w room sv sc v k = divided-narrow 4096000 (omega arith) (wider-narrow (omega arith) (product_narrow sv sc v k))

mass-narrow : {gas : Ends} (density w v : ℕ) → density ≤ density_range.most → density_range.most * w ≤ 1000000 * v →
    Narrow w gas → Narrow (suc v) (mass_of gas density)
unfolding mass_of
mass-narrow density w v h room n = divided-narrow 1000000 (omega arith) (wider-narrow room (scaled-narrow (pos density) h n))

rate-narrow : {w : ℕ} {mass : Ends} (distance : ℕ) → 1000 ≤ distance → Narrow w mass → Narrow (suc w) (rate_of mass distance)
unfolding rate_of
rate-narrow {w} distance h n =
    divided-narrow distance (omega arith) (wider-narrow (mul-le-mul_right w h) (scaled-narrow {m = 1000} (pos 1000) (omega arith) n))

weighted-narrow :
    {w : ℕ} {first second third : Ends} (weights : Weights) → weights.first + weights.second + weights.third ≡ 100 →
    Narrow w first → Narrow w second → Narrow w third → Narrow (suc w) (weighted_of weights first second third)
unfolding weighted_of
weighted-narrow {w} weights e a b c =
    let f : (weights.first + weights.second + weights.third) * w ≡ 100 * w = ap (λ (n : ℕ). n * w) e in
    divided-narrow 100 (omega arith)
    (wider-narrow (omega arith) (combination-narrow weights.first weights.second weights.third a b c))

-- ---- a part
-- of the mass, of NOx and of another gas
abbrev mass_width : Bool → ℕ
mass_width nox = cond nox 25815 8960

module _ {t : Triple} {c : Cutter} {p : Part} {sides : Sides} (read : NarrowSides sides) (r : PartRanges t c p sides) (d : 100 ≤ t.d) where
  volume-narrow : Narrow 1 (volume_in p)
  unfolding volume_of
  volume-narrow =
      let warm = kelvin-least (volume-ranges r) in
      let k = kelvin_of gtr p.temperature in
      quotient-narrow (pos 101325 *ℤ k) (omega (zs, mul-parts (pos 101325) k)) (exactly-narrow _)

  -- a volume is not negative
  volume-least : pos 0 ≤ℤ (volume_in p).lower
  unfolding volume_of divided_by div_down exactly
  volume-least = omega zs

  volume-sized : (volume_in p).upper ≤ℤ pos 200000000 → Sized 200000000 (volume_in p)
  volume-sized h =
      let o = volume-narrow.ordered in
      let l = volume-least in
      record { lower = omega (zs, abs-parts (volume_in p).lower); upper = omega (zs, abs-parts (volume_in p).upper) }

  -- 10 + wc + wh is at most 50
  g-narrow : Narrow 50 (g_in t sides.bag)
  unfolding g_of
  g-narrow =
      wider-narrow (omega (arith, r.triple_ranged.wc.1, r.triple_ranged.wh.1))
      (combination-narrow 10 t.wc t.wh (read.bag CO2 refl) (read.bag CO refl) (read.bag HC refl))

  -- of a gas that was read, the stages take what was read
  ranges_in : (gas : Gas) → is_nmhc gas ≡ false → ConcentrationRanges (ends_at gas sides.bag) (ends_at gas sides.air) (g_in t sides.bag) (q_of t.d)
  unfolding staged_of
  ranges_in gas o = rw (staged-read c sides.bag gas o, staged-read c sides.air gas o) at (masses-ranges r gas).ranges

  abbrev read_mass_in : Gas → Ends
  read_mass_in gas = gas_mass (volume_in p) (ends_at gas sides.bag) (ends_at gas sides.air) (g_in t sides.bag) (q_of t.d) (density_at gas p.density)

  concentration-narrow-in : (gas : Gas) → is_nmhc gas ≡ false → Narrow 86 (concentration_in gas t sides)
  concentration-narrow-in gas o =
      concentration-narrow (omega arith) (ranges_in gas o) (r.air_sizes gas) (read.bag gas o) (read.air gas o) g-narrow

  -- 200,000,000 x 86 + 268,435,456 is at most 4,096,000 x 4,265, and 2,100,000 x 4,266 at most 1,000,000 x 8,959
  dry-mass : (gas : Gas) → Ordinary gas t p sides → Narrow 8960 (read_mass_in gas)
  unfolding gas_mass
  dry-mass gas o =
      mass-narrow (density_at gas p.density) 4266 8959 (r.ranged.density gas).1 (omega arith)
      (gas-volume-narrow largest_concentration 4265 (omega arith) (volume-sized o.volume)
      (concentration_size (ranges_in gas o.read) (r.bag_sizes gas) (r.air_sizes gas))
      volume-narrow (concentration-narrow-in gas o.read))

  kh-narrow : Narrow 1 (kh_of p.humidity p.saturation p.barometer)
  unfolding kh_of
  kh-narrow =
      let k = kh-ranges r in
      let least = divisor-least k in
      let room = vapour-most k.ranges in
      let low = k.ranges.low in
      quotient-narrow _ (omega zs) (exactly-narrow _)

  -- within 256 ppm of zero the gas volume is at most 51,200,000 and its ends 4,201 apart, the mass 107,520,000 and 8,824 apart; and
  -- 107,520,000 + 179,536 x 8,824 is at most 65,536 x 25,814
  nox-mass : (gas : Gas) → Ordinary gas t p sides → Sized 1048576 (concentration_in gas t sides) →
      Narrow 25815 (nox_mass_of (read_mass_in gas) (kh_in p))
  unfolding nox_mass_of gas_mass mass_of gas_volume_of
  nox-mass gas o c =
      let v = volume-sized o.volume in
      let d = density_at gas p.density in
      let most = (r.ranged.density gas).1 in
      let gas_size = divided-size {q = 51200000} 4096000 (omega arith) (wider-size (omega arith) (product-size v c)) in
      let mass_size = divided-size {q = 107520000} 1000000 (omega arith) (wider-size (omega arith) (scaled-size (pos d) most gas_size)) in
      let gas-volume = gas-volume-narrow 1048576 4200 (omega arith) v c volume-narrow (concentration-narrow-in gas o.read) in
      let mass = mass-narrow d 4201 8823 most (omega arith) gas-volume in
      divided-narrow {q = 25814} 65536 (omega arith) (wider-narrow (omega arith) (product_narrow mass_size (kh_size (kh-ranges r)) mass kh-narrow))

  mass-in : (gas : Gas) → Ordinary gas t p sides → Narrow (mass_width (is_nox gas)) (ends_at gas (mass_in t c p sides))
  mass-in gas o = rw (mass-at gas, o.read) (go (is_nox gas) o.nox)
    where
      go : (b : Bool) → (b ≡ true → Sized 1048576 (concentration_in gas t sides)) →
          Narrow (mass_width b) (cond b (nox_mass_of (read_mass_in gas) (kh_in p)) (read_mass_in gas))
      go true c = nox-mass gas o (c refl)
      go false c = dry-mass gas o

  rate-in : (gas : Gas) → Ordinary gas t p sides → Narrow (suc (mass_width (is_nox gas))) (ends_at gas (part_of t c p sides).rate)
  unfolding part_of rates_of
  rate-in gas o = rw (each_at gas) (rate-narrow p.distance o.distance (mass-in gas o))

-- ---- the test
module _ {s : BagSheet} {readings : TestSides} (t : Tested s) (read : TestRead s readings) (r : PartsRanges s (cutter_of s) readings) where
  third-in : (gas : Gas) → OrdinaryTest gas s readings → Narrow (suc (mass_width (is_nox gas))) (ends_at gas (third_part s (cutter_of s) readings.third).rate)
  unfolding third_part nothing
  third-in gas o = go (eqb s.class 3) (eqb-true s.class 3)
    where
      go : (b : Bool) → (b ≡ true → s.class ≡ 3) →
          Narrow (suc (mass_width (is_nox gas))) (ends_at gas (cond b (part_of s.triple (cutter_of s) s.third readings.third) no_part).rate)
      go true f = rate-in (read-narrow 3 s.third (read.third (f refl))) (r.third (f refl)) t.triple.d.0 gas (o.third (f refl))
      go false f = rw (each_at gas) (wider-narrow (omega arith) (exactly-narrow (pos 0)))

  weighted-in : (gas : Gas) → OrdinaryTest gas s readings → Narrow (suc (suc (mass_width (is_nox gas)))) (ends_at gas (result_of s (cutter_of s).fitted (parts_in s (cutter_of s) readings)).weighted)
  unfolding result_of parts_in weighted_gases
  weighted-in gas o =
      rw (each_at gas)
      (weighted-narrow (weights_of s.class) (weights-whole s.class t.class.0 t.class.1)
      (rate-in (read-narrow 1 s.first read.first) r.first t.triple.d.0 gas o.first)
      (rate-in (read-narrow 2 s.second read.second) r.second t.triple.d.0 gas o.second)
      (third-in gas o))

-- each of the two stages after the mass adds one
two-more : (nox : Bool) → suc (suc (mass_width nox)) ≤ proven_width nox
two-more true = omega arith
two-more false = omega arith

-- which is within what is asked
asked : (nox : Bool) → proven_width nox ≤ width_of nox
asked true = omega arith
asked false = omega arith

same-readings : {x : (Result TestSides Refusal)} {a b : TestSides} → x ≡ Ok a → x ≡ Ok b → a ≡ b
same-readings p q = cc

module _ (s : BagSheet) (readings : TestSides) (r : TestResult) (e : test_answer s ≡ Ok r) (read : read_in s ≡ Ok readings) where
  pub proven-widths : (gas : Gas) → OrdinaryTest gas s readings → Narrow (proven_width (is_nox gas)) (ends_at gas r.weighted)
  proven-widths gas o =
      let a = accepted-result e in
      let sound = accepted-sound s a.sheet in
      let same : a.readings ≡ readings = same-readings a.read read in
      let late : judge_late s (cutter_of s) readings ≡ Ok tt = rw same at a.late in
      let weighted = weighted-in sound.tested (test_read read) (parts-ranges sound read late) gas o in
      rw (a.result, same) (wider-narrow (two-more (is_nox gas)) weighted)

  pub widths : (gas : Gas) → OrdinaryTest gas s readings → Narrow (width_of (is_nox gas)) (ends_at gas r.weighted)
  widths gas o = wider-narrow (asked (is_nox gas)) (proven-widths gas o)
