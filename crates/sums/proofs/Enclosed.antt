-- The exact sum to any n from 24 on, in units of 1/2^32, lies between the two ends of the exponential. Assumes nothing.
use Prim.Native.Nat.{ℕ, ◌≤◌}
use native.Mathlib.Omega.{arith}
use Rattle.arith.specs.Fraction.{◌*ᶠ◌, Between}
use Rattle.shift.specs.Exponential.{exponential_of, Exponent, exact_term}
use Rattle.shift.proofs.ExactTerms.{unit}
use Rattle.sums.specs.Sums.{even, alternating, exact_sum}
use Rattle.sums.proofs.Falling.{Held, alternating-between}
use Rattle.sums.proofs.Terms.{units, sum-to-holds, units-fall, scale-sum}

module _ {over under : ℕ} (x : Exponent over under) where
  -- the upper end is that of the sum to 24, the lower end that of the sum to 23
  started : Held (exponential_of over under) (even 23) (alternating (units over under x.some) 23) (alternating (units over under x.some) 24)
  unfolding exponential_of
  started =
      let l = sum-to-holds over under x.some 23 in
      let u = sum-to-holds over under x.some 24 in
      record { high = record { positive = u.positive; below = u.below }; low = record { positive = l.positive; above = l.above } }

  pub sum-enclosed : (n : ℕ) → 24 ≤ n → Between (exponential_of over under) (unit *ᶠ exact_sum over under n)
  sum-enclosed n long =
      rw (scale-sum (exact_term over under) n)
      (alternating-between (units-fall over under x.some (omega (arith, x.mild))) 23 (omega arith) started n long)
