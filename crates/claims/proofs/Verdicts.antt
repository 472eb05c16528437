-- Demand 3, verdicts: pass is said only where the exact figure is at or below the limit, fail only where it is above, and undecided exactly where
-- the limit is at or above the lower end and below the upper. Assumes nothing.
use mathlib.Core.Path.{◌≡◌, refl}
use mathlib.Core.Logic.{⊎_elim}
use mathlib.Core.Bool.{Bool, true, false, cond, false≢true}
use Prim.Native.Nat.{ℕ}
use lib.IntN.{ℤ, pos}
use Rattle.std.specs.Prelude.{None, Option, Some, Ok}
use lib.Signed.{◌<ℤ◌, le_z, lt_z, clash_ℤ, <ℤ-≤ℤ_trans}
use Rattle.arith.specs.declared.Ends.{Ends}
use Rattle.arith.specs.Fraction.{Fraction, Between}
use Rattle.arith.proofs.Ring.{mul_mono, mul-mono-<, ≤_trans, <-≤, ≤-or-<}
use Rattle.arith.proofs.Machine.{lt-true, lt-false, le-true}
use Rattle.refusal.specs.declared.Gas.{Gas}
use Rattle.refusal.specs.declared.Gas.TheVariants.{NMHC}
use Rattle.bag.specs.Gas.{is_nmhc}
use Rattle.bag.specs.declared.BagSheet.{BagSheet}
use Rattle.bag.specs.Sheet.{limit_at}
use Rattle.bag.proofs.Gas.{by-gas}
use Rattle.weigh.specs.declared.Verdict.{Verdict}
use Rattle.weigh.specs.declared.Verdict.TheVariants.{Pass, Fail, Undecided}
use Rattle.weigh.specs.Test.{verdict_of}
use Rattle.cutter.specs.NonMethane.{cutter_of}
use Rattle.sides.specs.declared.TestSides.{TestSides}
use Rattle.sides.specs.Gases.{ends_at}
use Rattle.emission.specs.declared.TestResult.{TestResult}
use Rattle.emission.specs.Test.{parts_in, verdict_at, nmhc_verdict, verdicts_of, result_of, test_answer}
use Rattle.emission.proofs.Each.{verdict-at}
use Rattle.claims.specs.Exact.{TestPpm, has, TestMeasured}
use Rattle.claims.specs.Statements.{Justified, JustifiedIn}
use Rattle.claims.proofs.Accepted.{accepted-result}
use Rattle.claims.proofs.Contained.{contained}

-- a test that failed, strictly
pub above : {a b : ℤ} → le_z a b ≡ false → b <ℤ a
above {a} {b} e = ⊎_elim (λ p. absurd (rw e at p.le)) (λ p. p) (≤-or-< a b)

module _ {e : Ends} {q : Fraction} (h : Between e q) (limit : ℕ) where
  pub justified : Justified e q limit (Some (verdict_of e limit))
  unfolding verdict_of
  justified = go (le_z e.upper (pos limit)) (lt_z (pos limit) e.lower) refl refl
    where
      go : (t u : Bool) → le_z e.upper (pos limit) ≡ t → lt_z (pos limit) e.lower ≡ u → Justified e q limit (Some (cond t Pass (cond u Fail Undecided)))
      go true u x y =
          record {
            pass = λ v. ≤_trans h.below (mul_mono q.den (<-≤ h.positive) (le-true x));
            fail = λ v. absurd (false≢true (cc));
            undecided = λ v. absurd (false≢true (cc));
            only = λ l g. clash_ℤ g (le-true x);
            given = λ v. false≢true (cc);
          }
      go false true x y =
          record {
            pass = λ v. absurd (false≢true (cc));
            fail = λ v. <ℤ-≤ℤ_trans (mul-mono-< q.den h.positive (lt-true y)) h.above;
            undecided = λ v. absurd (false≢true (cc));
            only = λ l g. clash_ℤ (lt-true y) l;
            given = λ v. false≢true (cc);
          }
      go false false x y =
          record {
            pass = λ v. absurd (false≢true (cc));
            fail = λ v. absurd (false≢true (cc));
            undecided = λ v. (lt-false y, above x);
            only = λ l g. refl;
            given = λ v. false≢true (cc);
          }

-- the verdicts of a result are those of its weighted ends
verdicts-in : (s : BagSheet) (r : TestResult) (readings : TestSides) →
    r ≡ result_of s (cutter_of s).fitted (parts_in s (cutter_of s) readings) → r.verdicts ≡ verdicts_of (cutter_of s).fitted r.weighted s.limits
unfolding result_of
verdicts-in s r readings e = rw e

-- the verdict of a gas's weighted ends, which is that of every gas that the test has
abbrev own : BagSheet → TestResult → Gas → Verdict
own s r gas = verdict_of (ends_at gas r.weighted) (limit_at gas s.limits)

verdict-there : (s : BagSheet) (r : TestResult) (gas : Gas) → has s gas ≡ true → r.verdicts ≡ verdicts_of (cutter_of s).fitted r.weighted s.limits →
    verdict_at gas r.verdicts ≡ Some (verdict_of (ends_at gas r.weighted) (limit_at gas s.limits))
unfolding verdicts_of nmhc_verdict
verdict-there s r gas there e =
    rw (e, verdict-at gas)
    (by-gas (λ gas. has s gas ≡ true → cond (is_nmhc gas) fifth (Some (own s r gas)) ≡ Some (own s r gas))
    (λ h. refl) (λ h. refl) (λ h. refl) (λ h. refl) (go (cutter_of s).fitted) gas there)
  where
    fifth : Option Verdict
    fifth = cond (cutter_of s).fitted (Some (own s r NMHC)) None

    go : (fitted : Bool) → fitted ≡ true → cond fitted (Some (own s r NMHC)) None ≡ Some (own s r NMHC)
    go true h = refl
    go false h = absurd (false≢true h)

pub verdicts : (s : BagSheet) (x : TestPpm) (r : TestResult) → test_answer s ≡ Ok r → TestMeasured s x → (gas : Gas) → has s gas ≡ true → JustifiedIn s x r gas
verdicts s x r e m gas there =
    let a = accepted-result e in
    rw (verdict-there s r gas there (verdicts-in s r a.readings a.result)) (justified ((contained s x r e m).weighted gas there) (limit_at gas s.limits))
