-- Each exact term, in units of 1/2^32, lies between the two ends of the term that the core makes; so the ends of the terms and of their sums are in
-- order. Assumes nothing.
use mathlib.Core.Path.{◌≡◌, ap}
use mathlib.Core.Bool.{Bool, true, false, cond}
use Prim.Native.Nat.{ℕ, zero, suc, ◌*◌, ◌%◌, ◌^◌, ◌<◌}
use native.Mathlib.Nat.{pow-zero, pow-suc, one-le-pow, mul-le-mul, mul-le-mul_left, mul-le-mul_right}
use native.Mathlib.Omega.{arith}
use lib.Dec.{eqb}
use lib.IntN.{pos, ◌*ℤ◌}
use lib.Signed.{◌≤ℤ◌, ◌<ℤ◌}
use Rattle.arith.specs.declared.Ends.{Ends}
use Rattle.arith.specs.Stages.{sum_of, difference_of}
use Rattle.arith.specs.Fraction.{Fraction, whole, ◌*ᶠ◌, ◌/ᶠ◌, Between}
use Rattle.arith.proofs.Parts.{zs, add_parts}
use Rattle.arith.proofs.Ring.{add-mono, sub-mono, mul-cancel, ≤_trans}
use Rattle.arith.proofs.Enclosure.{exactly-holds, same-value, scaled-holds, divided-holds, ordered}
use Rattle.shift.specs.Exponential.{next_term, term_of, with_term, sum_to, exponential_of, factorial, exact_term}

-- 2^32
abbrev pub unit : Fraction
unit = whole (pos (2 ^ 32))

factorial-some : (k : ℕ) → 0 < factorial k
unfolding factorial
factorial-some zero = omega arith
factorial-some (suc k) = let h = factorial-some k in omega (arith, mul-le-mul_left (suc k) h)

-- the denominator of the k-th term
abbrev pub den : ℕ → ℕ → ℕ
den under k = under ^ k * factorial k

pub den-some : {under : ℕ} → 0 < under → (k : ℕ) → 0 < den under k
den-some {under} some k = omega (arith, mul-le-mul (one-le-pow k under some) (factorial-some k))

with-ordered : {sum term : Ends} (k : ℕ) → sum.lower ≤ℤ sum.upper → term.lower ≤ℤ term.upper → (with_term sum term k).lower ≤ℤ (with_term sum term k).upper
unfolding with_term sum_of difference_of
with-ordered {sum} {term} k h j = go (eqb (k % 2) 0)
  where
    go : (even : Bool) → (cond even (sum_of sum term) (difference_of sum term)).lower ≤ℤ (cond even (sum_of sum term) (difference_of sum term)).upper
    go true = add-mono h j
    go false = sub-mono h j

module _ (over under : ℕ) (some : 0 < under) where
  next-holds : (k : ℕ) {a : Ends} {p : Fraction} → Between a p → Between (next_term over under a (suc k)) (whole (pos over) *ᶠ p /ᶠ whole (pos (under * suc k)))
  unfolding next_term
  next-holds k h = divided-holds (scaled-holds h (pos over)) (pos (under * suc k)) (omega (zs, mul-le-mul_right (suc k) some))

  -- a(k) ≤ 2^32 x^k / k! ≤ b(k)
  pub term-holds : (k : ℕ) → Between (term_of over under k) (unit *ᶠ exact_term over under k)
  unfolding term_of exact_term factorial
  term-holds zero = rw (pow-zero over, pow-zero under) (exactly-holds (pos 4294967296))
  term-holds (suc k) =
      let positive : pos 0 <ℤ pos (1 * den under (suc k)) = omega (zs, den-some some (suc k)) in
      let same : 1 * den under (suc k) * (over * (4294967296 * over ^ k) * 1) ≡ 1 * (1 * den under k) * (under * suc k) * (4294967296 * over ^ suc k) =
      rw (pow-suc under k, pow-suc over k) (omega arith) in
      same-value (next-holds k (term-holds k)) (unit *ᶠ exact_term over under (suc k)) positive (ap pos same)

  term-some : (k : ℕ) → pos 0 ≤ℤ (term_of over under k).upper
  unfolding exact_term
  term-some k =
      let h = term-holds k in
      let some : (pos (1 * den under k) *ℤ pos 0) ≤ℤ pos (4294967296 * over ^ k) = omega zs in
      mul-cancel (pos (1 * den under k)) h.positive (≤_trans some h.below)

  sum-ordered : (k : ℕ) → (sum_to over under k).lower ≤ℤ (sum_to over under k).upper
  unfolding sum_to
  sum-ordered zero = ordered (term-holds zero)
  sum-ordered (suc k) = with-ordered (suc k) (sum-ordered k) (ordered (term-holds (suc k)))

  -- the upper end has one term more, which is added
  pub exponential-ordered : (exponential_of over under).lower ≤ℤ (exponential_of over under).upper
  unfolding exponential_of sum_to with_term sum_of
  exponential-ordered = let last = term-some 24 in ≤_trans (sum-ordered 23) (omega (zs, add_parts (sum_to over under 23).upper (term_of over under 24).upper))
