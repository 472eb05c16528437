-- How small the terms past the 24th are. Assumes nothing.
use mathlib.Core.Path.{◌≡◌, refl, sym}
use Prim.Native.Nat.{ℕ, zero, suc, ◌+◌, ◌*◌, ◌^◌, ◌≤◌, ◌<◌}
use native.Mathlib.Nat.{pow-zero, pow-suc, one-le-pow, mul-le-mul, mul-le-mul_left, le_of_eq}
use native.Mathlib.Omega.{arith}
use Rattle.shift.specs.Exponential.{Exponent, factorial}
use Rattle.shift.proofs.ExactTerms.{den}

25-factorial : factorial 25 ≡ 15511210043330985984000000
unfolding factorial
25-factorial = refl

module _ {over under : ℕ} (x : Exponent over under) where
  -- x is at most 3/2
  powers : (k : ℕ) → 2 ^ k * over ^ k ≤ 3 ^ k * under ^ k
  powers zero = rw (pow-zero over, pow-zero under) (omega arith)
  powers (suc k) =
      let h = mul-le-mul (powers k) x.mild in
      rw (pow-suc 2 k, pow-suc 3 k, pow-suc over k, pow-suc under k) (omega arith)

  first_small : 2 ^ 69 * over ^ 25 < den under 25
  first_small = rw 25-factorial (omega (arith, powers 25, one-le-pow 25 under x.some))

  -- and every further one is less
  pub rest-small : (j : ℕ) → 2 ^ 69 * over ^ (j + 25) < den under (j + 25)
  unfolding factorial
  rest-small zero = first_small
  rest-small (suc j) =
      let k = j + 25 in
      let e : suc j + 25 ≡ suc k = omega arith in
      let m : over < under * suc k = omega (arith, x.mild, x.some) in
      let f : factorial (suc k) ≡ suc k * factorial k = refl in
      let h = mul-le-mul (rest-small j) m in
      let turned = mul-le-mul_left (under ^ k * under) (le_of_eq (sym f)) in
      rw (e, pow-suc over k, pow-suc under k) (omega (arith, h, turned))
