-- The laws of `count`: one place more, no more than there are, and by what holds of each place alone. Assumes nothing.
use mathlib.Core.Path.{◌≡◌, refl, ap}
use mathlib.Core.Bool.{Bool, true, false, cond}
use Prim.Native.Nat.{ℕ, zero, suc, ◌+◌, ◌≤◌, ◌<◌}
use native.Mathlib.Numerals.{add-one}
use native.Mathlib.Omega.{arith}
use Rattle.shift.specs.Speeds.{count}

one-most : (holds : Bool) → cond holds 1 0 ≤ 1
one-most true = omega arith
one-most false = omega arith

module _ (holds : ℕ → Bool) where
  pub count-more : (n : ℕ) → count holds (n + 1) ≡ count holds n + cond (holds n) 1 0
  count-more n = ap (count holds) (add-one n)

  pub count_most : (n : ℕ) → count holds n ≤ n
  count_most zero = omega arith
  count_most (suc n) = omega (arith, count_most n, one-most (holds n))

-- what holds of the same places is counted the same
pub count_same : (f g : ℕ → Bool) (n : ℕ) → ((i : ℕ) → i < n → f i ≡ g i) → count f n ≡ count g n
count_same f g zero same = refl
count_same f g (suc n) same = (λ i. count_same f g n (λ k l. same k (omega arith)) i + cond (same n (omega arith) i) 1 0)
