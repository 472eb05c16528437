-- The messages of a test that was answered: every one of the class's parts has an exact value, and its ends hold it; the cutter's has where the test has the fifth
-- gas. Assumes nothing.
use mathlib.Core.Path.{◌≡◌, refl, sym, ap, subst}
use mathlib.Core.Bool.{Bool, true, false, not, cond, ◌&&◌, ◌||◌, false≢true}
use Prim.Native.Nat.{ℕ, ◌*◌}
use borrow.Author.Tests.{eq-eqb}
use lib.Dec.{eqb}
use lib.IntN.{pos}
use Rattle.arith.specs.declared.Ends.{Ends}
use Rattle.arith.specs.Fitting.{Narrow}
use Rattle.arith.specs.Fraction.{Fraction, ◌*ᶠ◌, Between}
use Rattle.arith.proofs.Ring.{mul-one, mul_left_comm}
use Rattle.reading.specs.declared.Message.{Message}
use Rattle.reading.specs.declared.Message.TheVariants.{Ppm, Percent, OverRange, NotFitted}
use Rattle.refusal.specs.declared.Gas.{Gas}
use Rattle.refusal.proofs.Ranges.{both}
use Rattle.reading.specs.declared.Bag.{Bag}
use Rattle.std.specs.Prelude.{Ok, Some}
use Rattle.reading.specs.Units.{Exact, value, none, exact_value, times, units_of, is_fitted, cutter_units}
use Rattle.reading.proofs.Usable.{Usable, usable}
use Rattle.bag.specs.Gas.{is_nmhc, message_at}
use Rattle.bag.specs.declared.Part.{Part}
use Rattle.bag.specs.declared.BagSheet.{BagSheet}
use Rattle.bag.proofs.Gas.{by-gas}
use Rattle.cutter.specs.NonMethane.{cutter_of, fitted_in}
use Rattle.sides.specs.declared.Sides.{Sides}
use Rattle.sides.specs.declared.TestSides.{TestSides}
use Rattle.sides.specs.Gases.{ends_at}
use Rattle.sides.specs.ReadIn.{worth_of, read_part, read_in}
use Rattle.sides.proofs.Readings.{units-held}
use Rattle.sides.proofs.Taken.{read-parts, third-read}
use Rattle.emission.specs.declared.TestResult.{TestResult}
use Rattle.emission.specs.Test.{test_answer}
use Rattle.claims.specs.Exact.{exact_ppm, PartPpm, TestPpm, has, Measured, TestMeasured, count}
use Rattle.claims.proofs.Accepted.{accepted-result}
use Rattle.claims.proofs.Scales.{In, counted}

-- ---- a message: its ends, which are in 1/256 ppm, hold its exact value
same-value-of : {p q : Fraction} → value p ≡ value q → p ≡ q
same-value-of e = cc

pub no_value : {q : Fraction} → none ≡ value q → ⊥
no_value e = false≢true (cc)

-- v the float's value, with 256 j units and j ppm to one
in-ppm : {e : Ends} (j : ℕ) (v : Fraction) → Between e (v *ᶠ count (256 * j)) → In 256 e (v *ᶠ count j)
in-ppm j v h = counted 256 (v *ᶠ count j) (mul_left_comm v.num (pos 256) (pos j)) h

of-float : {e : Ends} {q : Fraction} (j : ℕ) (x : Exact) → Usable (times (pos (256 * j)) x) e → times (pos j) x ≡ value q → In 256 e q
of-float j none u h = absurd (no_value h)
of-float {e} j (value v) u h =
    subst (In 256 e) (same-value-of h) (in-ppm j v (subst (Between e) (sym (same-value-of u.is)) u.holds))

-- a ppm is one of itself
one-ppm : {q : Fraction} (x : Exact) → x ≡ value q → times (pos 1) x ≡ value q
one-ppm none h = absurd (no_value h)
one-ppm (value v) h = rw (mul-one v.num, mul-one v.den) h

reading-holds : (message : Message) {e : Ends} {q : Fraction} → units_of message ≡ Some e → exact_ppm message ≡ value q → In 256 e q
reading-holds (Ppm x) r h = of-float 1 (exact_value x) (usable (Ppm x) r) (one-ppm (exact_value x) h)
reading-holds (Percent x) r h = of-float 10000 (exact_value x) (usable (Percent x) r) h
reading-holds OverRange r h = absurd (no_value h)
reading-holds NotFitted r h = absurd (no_value h)

-- ---- the cutter: where a test has the fifth gas, it is fitted in every part of the class
pub record Fitted (s : BagSheet) (p : Part) : Type 0 where
  pub bag : (cutter_of s).fitted ≡ true → is_fitted p.bag.cutter ≡ true
  pub air : (cutter_of s).fitted ≡ true → is_fitted p.air.cutter ≡ true

fitted-sides : (s : BagSheet) (p : Part) → ((cutter_of s).fitted ≡ true → fitted_in p ≡ true) → Fitted s p
fitted-sides s p f =
    let sides : (cutter_of s).fitted ≡ true → (is_fitted p.bag.cutter ≡ true) × (is_fitted p.air.cutter ≡ true) = λ h. both _ _ (f h) in
    record { bag = λ h. (sides h).0; air = λ h. (sides h).1 }

unless : (a b : Bool) → (not a || b) ≡ true → a ≡ true → b ≡ true
unless true b e h = e
unless false b e h = absurd (false≢true h)

pub record TestFitted (s : BagSheet) : Type 0 where
  pub first : Fitted s s.first
  pub second : Fitted s s.second
  pub third : s.class ≡ 3 → Fitted s s.third

pub test-fitted : (s : BagSheet) → TestFitted s
unfolding cutter_of
test-fitted s =
    let first = fitted_in s.first in
    let second = fitted_in s.second in
    let third = not (eqb s.class 3) || fitted_in s.third in
    record {
      first = fitted-sides s s.first (λ h. (both first second (both (first && second) third h).0).0);
      second = fitted-sides s s.second (λ h. (both first second (both (first && second) third h).0).1);
      third = λ three. fitted-sides s s.third (λ h. unless (eqb s.class 3) _ (both (first && second) third h).1 (eq-eqb s.class 3 three));
    }

-- what a gas's message is worth is then its units
module _ (s : BagSheet) (b : Bag) (f : (cutter_of s).fitted ≡ true → is_fitted b.cutter ≡ true) where
  there : (gas : Gas) → has s gas ≡ true → is_nmhc gas ≡ true → is_fitted (message_at gas b) ≡ true
  there =
      by-gas (λ gas. has s gas ≡ true → is_nmhc gas ≡ true → is_fitted (message_at gas b) ≡ true)
      (λ h n. absurd (false≢true n)) (λ h n. absurd (false≢true n)) (λ h n. absurd (false≢true n)) (λ h n. absurd (false≢true n)) (λ h n. f h)

  as-units : (gas : Gas) → has s gas ≡ true → {e : Ends} → worth_of gas (message_at gas b) ≡ Some e → units_of (message_at gas b) ≡ Some e
  unfolding cutter_units
  as-units gas h {e} = go (is_nmhc gas) (there gas h)
    where
      go : (behind : Bool) → (behind ≡ true → is_fitted (message_at gas b) ≡ true)
          → cond behind (cutter_units (message_at gas b)) (units_of (message_at gas b)) ≡ Some e → units_of (message_at gas b) ≡ Some e
      go true fitted is = rw (fitted refl) at is
      go false fitted is = is

-- ---- a part: what was read of it holds what was measured, of the gases that the test has
pub record ReadAs (s : BagSheet) (sides : Sides) (x : PartPpm) : Type 0 where
  pub bag : (gas : Gas) → has s gas ≡ true → In 256 (ends_at gas sides.bag) (x.bag gas)
  pub air : (gas : Gas) → has s gas ≡ true → In 256 (ends_at gas sides.air) (x.air gas)

pub read_as : (part : ℕ) (s : BagSheet) (p : Part) {sides : Sides} {x : PartPpm} → Fitted s p → read_part part p ≡ Ok sides → Measured s p x → ReadAs s sides x
read_as part s p {sides} f read m =
    let held = units-held part p sides read in
    record {
      bag = λ gas h. reading-holds _ (as-units s p.bag f.bag gas h (held gas).bag) (m.bag gas h);
      air = λ gas h. reading-holds _ (as-units s p.air f.air gas h (held gas).air) (m.air gas h);
    }

-- and is one unit wide at most, of the first four
pub record NarrowSides (sides : Sides) : Type 0 where
  pub bag : (gas : Gas) → is_nmhc gas ≡ false → Narrow 1 (ends_at gas sides.bag)
  pub air : (gas : Gas) → is_nmhc gas ≡ false → Narrow 1 (ends_at gas sides.air)

worth-narrow : (gas : Gas) (message : Message) {e : Ends} → is_nmhc gas ≡ false → worth_of gas message ≡ Some e → Narrow 1 e
worth-narrow gas message n is = (usable message (rw n at is)).narrow

pub read-narrow : (part : ℕ) (p : Part) {sides : Sides} → read_part part p ≡ Ok sides → NarrowSides sides
read-narrow part p {sides} read =
    let held = units-held part p sides read in
    record { bag = λ gas n. worth-narrow gas _ n (held gas).bag; air = λ gas n. worth-narrow gas _ n (held gas).air }

-- ---- the test: of each part of the class
pub record TestRead (s : BagSheet) (readings : TestSides) : Type 0 where
  pub first : read_part 1 s.first ≡ Ok readings.first
  pub second : read_part 2 s.second ≡ Ok readings.second
  pub third : s.class ≡ 3 → read_part 3 s.third ≡ Ok readings.third

pub test_read : {s : BagSheet} {readings : TestSides} → read_in s ≡ Ok readings → TestRead s readings
test_read {s} e =
    let parts = read-parts e in
    record { first = parts.first; second = parts.second; third = third-read s.class s.third parts.third }

-- ---- a test that was answered was measured, and read
-- the value, where there is one
abbrev value_of : Exact → Fraction
value_of none = count 0
value_of (value q) = q

kept : (x : Exact) {q : Fraction} → x ≡ value q → x ≡ value (value_of x)
kept x h = rw h

of-usable : (k : ℕ) (x : Exact) {e : Ends} → Usable (times (pos k) x) e → (q : Fraction) × (x ≡ value q)
of-usable k none u = absurd (no_value u.is)
of-usable k (value q) u = (q, refl)

has_value : (message : Message) {e : Ends} → units_of message ≡ Some e → exact_ppm message ≡ value (value_of (exact_ppm message))
has_value (Ppm x) r = kept (exact_value x) (of-usable 256 (exact_value x) (usable (Ppm x) r)).1
has_value (Percent x) r = kept (times (pos 10000) (exact_value x)) (ap (times (pos 10000)) (of-usable 2560000 (exact_value x) (usable (Percent x) r)).1)
has_value OverRange r = absurd (no_value (usable OverRange r).is)
has_value NotFitted r = absurd (no_value (usable NotFitted r).is)

abbrev measured_in : Part → PartPpm
measured_in p = record { bag = λ gas. value_of (exact_ppm (message_at gas p.bag)); air = λ gas. value_of (exact_ppm (message_at gas p.air)) }

part-measured : (part : ℕ) (s : BagSheet) (p : Part) {sides : Sides} → Fitted s p → read_part part p ≡ Ok sides → Measured s p (measured_in p)
part-measured part s p {sides} f read =
    let held = units-held part p sides read in
    record {
      bag = λ gas h. has_value _ (as-units s p.bag f.bag gas h (held gas).bag);
      air = λ gas h. has_value _ (as-units s p.air f.air gas h (held gas).air);
    }

module _ (s : BagSheet) (r : TestResult) (e : test_answer s ≡ Ok r) where
  pub ends_read : (readings : TestSides) × (read_in s ≡ Ok readings)
  ends_read = let a = accepted-result e in (a.readings, a.read)

  pub measured : (x : TestPpm) × TestMeasured s x
  measured =
      let parts = test_read (accepted-result e).read in
      let fitted = test-fitted s in (
        record { first = measured_in s.first; second = measured_in s.second; third = measured_in s.third },
        record {
          first = part-measured 1 s s.first fitted.first parts.first;
          second = part-measured 2 s s.second fitted.second parts.second;
          third = λ three. part-measured 3 s s.third (fitted.third three) (parts.third three);
        },
      )
