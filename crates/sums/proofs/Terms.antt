-- The exact sums, in units of 1/2^32, lie between the ends of the sums that the core makes; and the exact terms fall where x is at most 2. Assumes nothing.
use mathlib.Core.Path.{◌≡◌, refl, ap, ◌∙◌}
use mathlib.Core.Bool.{Bool, true, false, cond}
use Prim.Native.Nat.{ℕ, zero, suc, ◌*◌, ◌^◌, ◌≤◌, ◌<◌}
use native.Mathlib.Nat.{pow-suc, mul-le-mul_left}
use native.Mathlib.Omega.{arith}
use lib.IntN.{pos, ◌+ℤ◌, ◌-ℤ◌, ◌*ℤ◌}
use Rattle.arith.specs.declared.Ends.{Ends}
use Rattle.arith.specs.Stages.{sum_of, difference_of}
use Rattle.arith.specs.Fraction.{Fraction, ◌+ᶠ◌, ◌-ᶠ◌, ◌*ᶠ◌, Between}
use Rattle.arith.proofs.Parts.{zs}
use Rattle.arith.proofs.Ring.{mul-add, mul-sub, mul_left_comm, one-mul}
use Rattle.arith.proofs.Enclosure.{sum-holds, difference-holds}
use Rattle.shift.specs.Exponential.{with_term, sum_to, factorial, exact_term}
use Rattle.shift.proofs.ExactTerms.{unit, den, den-some, term-holds}
use Rattle.sums.specs.Sums.{even, alternating}
use Rattle.sums.proofs.Falling.{Falls}

with-holds : {a b : Ends} {p q : Fraction} (k : ℕ) → Between a p → Between b q → Between (with_term a b k) (cond (even k) (p +ᶠ q) (p -ᶠ q))
unfolding with_term
with-holds {a} {b} {p} {q} k h j = go (even k)
  where
    go : (added : Bool) → Between (cond added (sum_of a b) (difference_of a b)) (cond added (p +ᶠ q) (p -ᶠ q))
    go true = sum-holds h j
    go false = difference-holds h j

module _ (over under : ℕ) (some : 0 < under) where
  -- the exact terms in units of 1/2^32
  abbrev pub units : ℕ → Fraction
  units k = unit *ᶠ exact_term over under k

  pub sum-to-holds : (k : ℕ) → Between (sum_to over under k) (alternating units k)
  unfolding sum_to alternating
  sum-to-holds zero = term-holds over under some zero
  sum-to-holds (suc k) = with-holds (suc k) (sum-to-holds k) (term-holds over under some (suc k))

  -- where x is at most 2, the terms fall from the first on
  pub units-fall : over ≤ 2 * under → Falls units 1
  unfolding exact_term factorial
  units-fall h =
      record {
        term = λ k. record { positive = omega (zs, den-some some k); some = omega zs };
        falls = λ k from.
            let m : over ≤ under * suc k = omega (arith, mul-le-mul_left under from) in
            record { most = rw (pow-suc under k, pow-suc over k) (omega (zs, mul-le-mul_left (den under k * over ^ k) m)) };
      }

-- ---- 2^32 times the sum is the sum of 2^32 times the terms
module _ (p q : Fraction) where
  scale-den : pos 1 *ℤ (q.den *ℤ p.den) ≡ (pos 1 *ℤ q.den) *ℤ (pos 1 *ℤ p.den)
  scale-den = simp one-mul

  scale-plus : unit *ᶠ (p +ᶠ q) ≡ unit *ᶠ p +ᶠ unit *ᶠ q
  scale-plus =
      let n : unit.num *ℤ (q.den *ℤ p.num +ℤ p.den *ℤ q.num) ≡ (pos 1 *ℤ q.den) *ℤ (unit.num *ℤ p.num) +ℤ (pos 1 *ℤ p.den) *ℤ (unit.num *ℤ q.num) =
      simp (one-mul, mul-add, mul_left_comm unit.num) in
      (λ i. record { num = n i; den = scale-den i })

  scale-minus : unit *ᶠ (p -ᶠ q) ≡ unit *ᶠ p -ᶠ unit *ᶠ q
  scale-minus =
      let n : unit.num *ℤ (q.den *ℤ p.num -ℤ p.den *ℤ q.num) ≡ (pos 1 *ℤ q.den) *ℤ (unit.num *ℤ p.num) -ℤ (pos 1 *ℤ p.den) *ℤ (unit.num *ℤ q.num) =
      simp (one-mul, mul-sub, mul_left_comm unit.num) in
      (λ i. record { num = n i; den = scale-den i })

pub scale-sum : (term : ℕ → Fraction) (n : ℕ) → unit *ᶠ alternating term n ≡ alternating (λ k. unit *ᶠ term k) n
unfolding alternating
scale-sum term zero = refl
scale-sum term (suc n) =
    go (even (suc n)) ∙ ap (λ (p : Fraction). cond (even (suc n)) (p +ᶠ unit *ᶠ term (suc n)) (p -ᶠ unit *ᶠ term (suc n))) (scale-sum term n)
  where
    go : (added : Bool) → unit *ᶠ cond added (alternating term n +ᶠ term (suc n)) (alternating term n -ᶠ term (suc n))
        ≡ cond added (unit *ᶠ alternating term n +ᶠ unit *ᶠ term (suc n)) (unit *ᶠ alternating term n -ᶠ unit *ᶠ term (suc n))
    go true = scale-plus (alternating term n) (term (suc n))
    go false = scale-minus (alternating term n) (term (suc n))
