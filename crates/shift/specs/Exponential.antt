-- 01, Shift speeds: the ends of e to the power -x, x = 19 P / (100 (m + 75)), in units of 1/2^32. Here x is over / under.
use Rattle.std.specs.Prelude.{cond, ℕ, zero, suc, ◌*◌, ◌%◌, ◌^◌, ◌≤◌, ◌<◌, eqb, pos, ◌*ℤ◌}
use Rattle.arith.specs.declared.Ends.{Ends}
use Rattle.arith.specs.Fraction.{Fraction}
use Rattle.arith.specs.Stages.{exactly, sum_of, difference_of, scaled_by, divided_by}

-- "a(k) = a(k-1) x 19 P / (100 (m + 75) k) rounded down, b(k) the same from b(k-1) rounded up": a is a term's lower end, b its upper
unfoldable pub next_term : ℕ → ℕ → Ends → ℕ → Ends
next_term over under t k = divided_by (scaled_by (pos over) t) (pos under *ℤ pos k)

-- "terms a(0) = b(0) = 2^32"
unfoldable pub term_of : ℕ → ℕ → ℕ → Ends
term_of over under zero = exactly (pos (2 ^ 32))
term_of over under (suc k) = next_term over under (term_of over under k) (suc k)

-- even terms are added, odd ones taken away
unfoldable pub with_term : Ends → Ends → ℕ → Ends
with_term sum t k = cond (eqb (k % 2) 0) (sum_of sum t) (difference_of sum t)

-- the terms from 0 to k: the lower end has the even a's and the odd b's, the upper end the even b's and the odd a's
unfoldable pub sum_to : ℕ → ℕ → ℕ → Ends
sum_to over under zero = term_of over under zero
sum_to over under (suc k) = with_term (sum_to over under k) (term_of over under (suc k)) (suc k)

-- "Lower end: even a's from 0 to 22 less odd b's from 1 to 23. Upper end: even b's from 0 to 24 less odd a's from 1 to 23."
unfoldable pub exponential_of : ℕ → ℕ → Ends
exponential_of over under = record { lower = (sum_to over under 23).lower; upper = (sum_to over under 24).upper }

-- what an accepted sheet tells of x: it is at most 3/2
pub record Exponent (over under : ℕ) : Type 0 where
  pub some : 0 < under
  pub small : under ≤ 107500
  pub mild : 2 * over ≤ 3 * under

-- ---- what the ends stand for
unfoldable pub factorial : ℕ → ℕ
factorial zero = 1
factorial (suc k) = suc k * factorial k

-- x^k / k!: a(k) and b(k) are the ends of 2^32 times that
unfoldable pub exact_term : ℕ → ℕ → ℕ → Fraction
exact_term over under k = record { num = pos (over ^ k); den = pos (under ^ k * factorial k) }
