-- What is said of a gas that a test does not have (02, M-108): the ends of its concentration are 0 in bag and in air, every stage makes 0 of 0, and it has no
-- verdict. Assumes nothing.
use mathlib.Core.Path.{◌≡◌, refl}
use mathlib.Core.Bool.{Bool, true, false, not, cond, ◌||◌, false≢true, true≢false}
use Prim.Native.Nat.{ℕ, ◌+◌, ◌≤◌}
use native.Mathlib.Omega.{arith}
use lib.Dec.{eqb}
use borrow.Author.Tests.{eqb-true}
use lib.IntN.{pos, nat_abs}
use Rattle.arith.specs.declared.Ends.{Ends}
use Rattle.arith.specs.Stages.{exactly, difference_of, scaled_by, divided_by}
use Rattle.arith.specs.Fitting.{Sized}
use Rattle.arith.proofs.Parts.{zs}
use Rattle.arith.proofs.Rounding.{same_ends}
use Rattle.arith.proofs.Size.{abs-parts, wider-size, exactly-size, sum-size, difference-size, scaled-size, product-size, divided-size}
use Rattle.refusal.specs.declared.Gas.{Gas}
use Rattle.refusal.specs.declared.Gas.TheVariants.{NMHC}
use Rattle.bag.specs.Gas.{is_nox, is_nmhc}
use Rattle.bag.specs.declared.Part.{Part}
use Rattle.bag.specs.declared.BagSheet.{BagSheet}
use Rattle.bag.specs.Sheet.{density_at}
use Rattle.bag.proofs.Gas.{by-gas}
use Rattle.bag.proofs.Sound.{accepted-sound}
use Rattle.stage.specs.Combination.{combination_of}
use Rattle.stage.specs.Part.{concentration_of, gas_volume_of, mass_of, rate_of}
use Rattle.weigh.specs.declared.Weights.{Weights}
use Rattle.weigh.specs.Test.{weights_of, weighted_of}
use Rattle.cutter.specs.NonMethane.{cutter_of, nmhc_of}
use Rattle.sides.specs.declared.Gases.{Gases}
use Rattle.sides.specs.declared.Sides.{Sides}
use Rattle.sides.specs.declared.TestSides.{TestSides}
use Rattle.sides.specs.Gases.{ends_at, nothing}
use Rattle.sides.proofs.Each.{each_at}
use Rattle.part.specs.Part.{gas_mass, mass_in, rates_of, part_of}
use Rattle.part.specs.Ranges.{PartRanges}
use Rattle.late.specs.Ranges.{PartsRanges}
use Rattle.late.proofs.Late.{parts-ranges}
use Rattle.emission.specs.declared.TestResult.{TestResult}
use Rattle.std.specs.Prelude.{Ok}
use Rattle.emission.specs.Test.{no_part, third_part, parts_in, weighted_gases, nmhc_verdict, verdicts_of, result_of, test_answer}
use Rattle.emission.proofs.Each.{verdict-at}
use Rattle.claims.specs.Exact.{has}
use Rattle.claims.specs.Statements.{Blank, Absent}
use Rattle.claims.proofs.Accepted.{accepted-result}
use Rattle.claims.proofs.Gases.{staged_at, mass-at}

-- ---- 0 is what is no larger than 0
abbrev Nought : Ends → Type 0
Nought e = Sized 0 e

nought-is : {e : Ends} → Nought e → e ≡ exactly (pos 0)
unfolding exactly
nought-is {e} h =
    let l = h.lower in
    let u = h.upper in
    same_ends (omega (zs, abs-parts e.lower)) (omega (zs, abs-parts e.upper))

-- every pair of ends has some size
own-size : (e : Ends) → Sized (nat_abs e.lower + nat_abs e.upper) e
own-size e = record { lower = omega arith; upper = omega arith }

scaled-nought : {e : Ends} (n : ℕ) → Nought e → Nought (scaled_by (pos n) e)
scaled-nought n h = wider-size (omega arith) (scaled-size {m = n} (pos n) (omega arith) h)

divided-nought : {e : Ends} (d : ℕ) → 1 ≤ d → Nought e → Nought (divided_by e (pos d))
divided-nought d p h = divided-size {q = 0} d (omega arith) (wider-size (omega arith) h)

-- ---- one law a stage
concentration-nought : {bag air : Ends} (g : Ends) (q : ℕ) → 1 ≤ q → Nought bag → Nought air → Nought (concentration_of bag air g q)
unfolding concentration_of
concentration-nought g q p bag air =
    let from-air = wider-size {k = 0} (omega arith) (product-size air (own-size (difference_of (exactly (pos q)) g))) in
    divided-nought q p (scaled-nought 16 (wider-size (omega arith) (difference-size (scaled-nought q bag) from-air)))

gas-volume-nought : (volume : Ends) {c : Ends} → Nought c → Nought (gas_volume_of volume c)
unfolding gas_volume_of
gas-volume-nought volume h = divided-nought 4096000 (omega arith) (wider-size (omega arith) (product-size (own-size volume) h))

mass-nought : {gas : Ends} (density : ℕ) → Nought gas → Nought (mass_of gas density)
unfolding mass_of
mass-nought density h = divided-nought 1000000 (omega arith) (scaled-nought density h)

rate-nought : {mass : Ends} (distance : ℕ) → 1 ≤ distance → Nought mass → Nought (rate_of mass distance)
unfolding rate_of
rate-nought distance p h = divided-nought distance p (scaled-nought 1000 h)

weighted-nought : {a b c : Ends} (w : Weights) → Nought a → Nought b → Nought c → Nought (weighted_of w a b c)
unfolding weighted_of combination_of
weighted-nought w a b c =
    let two = wider-size {k = 0} (omega arith) (sum-size (scaled-nought w.first a) (scaled-nought w.second b)) in
    divided-nought 100 (omega arith) (wider-size (omega arith) (sum-size two (scaled-nought w.third c)))

-- ---- a part
-- only the fifth gas can be absent, and it is not NOx
not-nox : (gas : Gas) → is_nmhc gas ≡ true → is_nox gas ≡ false
not-nox gas h = by-gas (λ g. is_nmhc g ≡ true → is_nox g ≡ false) (λ n. refl) (λ n. refl) (λ n. absurd (false≢true n)) (λ n. refl) (λ n. refl) gas h

module _ (s : BagSheet) (gas : Gas) (absent : has s gas ≡ false) where
  fifth : (is_nmhc gas ≡ true) × ((cutter_of s).fitted ≡ false)
  fifth = go (is_nmhc gas) absent
    where
      go : (b : Bool) → (not b || (cutter_of s).fitted) ≡ false → (b ≡ true) × ((cutter_of s).fitted ≡ false)
      go true e = (refl, e)
      go false e = absurd (true≢false e)

  staged-nought : (read : Gases) → Nought (staged_at gas (cutter_of s) read)
  unfolding nmhc_of
  staged-nought read = rw (fifth.0, fifth.1) (exactly-size (pos 0) (omega arith))

  module _ {p : Part} {sides : Sides} (r : PartRanges s.triple (cutter_of s) p sides) where
    mass-in : Nought (ends_at gas (mass_in s.triple (cutter_of s) p sides))
    unfolding gas_mass
    mass-in =
        let d = r.triple_ranged.d.0 in
        rw (mass-at gas, not-nox gas fifth.0)
        (mass-nought (density_at gas p.density)
        (gas-volume-nought _ (concentration-nought _ _ (omega arith) (staged-nought sides.bag) (staged-nought sides.air))))

    rate-in : Nought (ends_at gas (part_of s.triple (cutter_of s) p sides).rate)
    unfolding part_of rates_of
    rate-in = rw (each_at gas) (rate-nought p.distance (omega (arith, r.ranged.distance.0)) mass-in)

    part-blank : Blank gas (part_of s.triple (cutter_of s) p sides)
    unfolding part_of
    part-blank = (nought-is mass-in, nought-is rate-in)

  -- ---- the test
  module _ {readings : TestSides} (r : PartsRanges s (cutter_of s) readings) where
    no-part : Blank gas no_part
    unfolding nothing
    no-part = (each_at gas _, each_at gas _)

    third-in : Blank gas (third_part s (cutter_of s) readings.third) × Nought (ends_at gas (third_part s (cutter_of s) readings.third).rate)
    unfolding third_part
    third-in = go (eqb s.class 3) (eqb-true s.class 3)
      where
        go : (b : Bool) → (b ≡ true → s.class ≡ 3) →
            Blank gas (cond b (part_of s.triple (cutter_of s) s.third readings.third) no_part)
            × Nought (ends_at gas (cond b (part_of s.triple (cutter_of s) s.third readings.third) no_part).rate)
        go true f = (part-blank (r.third (f refl)), rate-in (r.third (f refl)))
        go false f = (no-part, rw no-part.1 (exactly-size (pos 0) (omega arith)))

    weighted-in : Nought (ends_at gas (weighted_gases (weights_of s.class) (part_of s.triple (cutter_of s) s.first readings.first).rate
        (part_of s.triple (cutter_of s) s.second readings.second).rate (third_part s (cutter_of s) readings.third).rate))
    unfolding weighted_gases
    weighted-in = rw (each_at gas) (weighted-nought (weights_of s.class) (rate-in r.first) (rate-in r.second) third-in.1)

    result-in : Absent (result_of s (cutter_of s).fitted (parts_in s (cutter_of s) readings)) gas
    unfolding result_of parts_in verdicts_of nmhc_verdict
    result-in =
        record {
          first = part-blank r.first;
          second = part-blank r.second;
          third = third-in.0;
          weighted = nought-is weighted-in;
          verdict = rw (verdict-at gas, fifth.0, fifth.1);
        }

-- the result itself tells whether it has the fifth
pub told : (s : BagSheet) (r : TestResult) → test_answer s ≡ Ok r → r.has_nmhc ≡ has s NMHC
unfolding result_of
told s r e = let a = accepted-result e in rw a.result

pub absent : (s : BagSheet) (r : TestResult) → test_answer s ≡ Ok r → (gas : Gas) → has s gas ≡ false → Absent r gas
absent s r e gas h =
    let a = accepted-result e in
    let sound = accepted-sound s a.sheet in
    rw a.result (result-in s gas h (parts-ranges sound a.read a.late))
