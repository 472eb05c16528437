-- How large the terms and their sums can be, where x is at most 3/2: so the machine holds them. Assumes nothing.
use mathlib.Core.Path.{◌≡◌}
use mathlib.Core.Bool.{Bool, true, false, cond}
use Prim.Native.Nat.{ℕ, zero, suc, ◌+◌, ◌*◌, ◌/◌, ◌%◌, ◌^◌, ◌≤◌, ◌<◌}
use native.Mathlib.Nat.{lt-mul-div-succ, div-le_of_le-mul, mul-le-mul_left, mul-le-mul_right, mul-le-mul, le_refl}
use native.Mathlib.Numerals.{add-one}
use native.Mathlib.Omega.{arith}
use lib.Dec.{eqb, lit≤}
use lib.IntN.{pos}
use Rattle.arith.specs.declared.Ends.{Ends}
use Rattle.arith.specs.Stages.{sum_of, difference_of, scaled_by}
use Rattle.arith.specs.Fitting.{SumFits, DifferenceFits, Sized}
use Rattle.arith.proofs.Size.{exactly-size, sum-size, difference-size, scaled-size, divided-size, sum_fits, difference-fits, scaled_fits, size_fits, wider-size}
use Rattle.shift.specs.Exponential.{next_term, term_of, with_term, sum_to, exponential_of, Exponent}
use Rattle.shift.specs.Fitting.{TermFits}

-- ---- one turn, with the code's k + 1
module _ (over under k : ℕ) where
  pub term-next : term_of over under (k + 1) ≡ next_term over under (term_of over under k) (k + 1)
  unfolding term_of
  term-next = rw add-one

  pub sum-next : sum_to over under (k + 1) ≡ with_term (sum_to over under k) (term_of over under (k + 1)) (k + 1)
  unfolding sum_to
  sum-next = rw add-one

-- ---- sizes: of a term, and of all terms up to it
bound : ℕ → ℕ
bound zero = 4294967296
bound (suc k) = 150 * bound k / (100 * suc k) + 1

total : ℕ → ℕ
total zero = bound zero
total (suc k) = total k + bound (suc k)

-- what a term of size b becomes
enough : (over under k b : ℕ) → 2 * over ≤ 3 * under → over * b ≤ under * suc k * (150 * b / (100 * suc k) + 1)
enough over under k b h =
    let c = 150 * b / (100 * suc k) + 1 in
    let some : 0 < 100 * suc k = omega arith in
    let next : 3 * b ≤ 2 * (suc k * c) = omega (arith, lt-mul-div-succ (150 * b) some) in
    omega (arith, mul-le-mul_right b h, mul-le-mul_left under next)

with_size : {m b : ℕ} {sum t : Ends} (k : ℕ) → Sized m sum → Sized b t → Sized (m + b) (with_term sum t k)
unfolding with_term
with_size {m} {b} {sum} {t} k h j = go (eqb (k % 2) 0)
  where
    go : (even : Bool) → Sized (m + b) (cond even (sum_of sum t) (difference_of sum t))
    go true = sum-size h j
    go false = difference-size h j

module _ {over under : ℕ} (x : Exponent over under) where
  next-size : (k : ℕ) {t : Ends} → Sized (bound k) t → Sized (bound (suc k)) (next_term over under t (suc k))
  unfolding next_term bound
  next-size k {t} h =
      let some : 0 < under * suc k = omega (arith, mul-le-mul_right (suc k) x.some) in
      let times : Sized (over * bound k) (scaled_by (pos over) t) = scaled-size (pos over) (le_refl over) h in
      divided-size (under * suc k) some (wider-size (enough over under k (bound k) x.mild) times)

  term-size : (k : ℕ) → Sized (bound k) (term_of over under k)
  unfolding term_of bound
  term-size zero = exactly-size (pos 4294967296) (le_refl 4294967296)
  term-size (suc k) = next-size k (term-size k)

  sum-total : (k : ℕ) → Sized (total k) (sum_to over under k)
  unfolding sum_to total
  sum-total zero = term-size zero
  sum-total (suc k) = with_size (suc k) (sum-total k) (term-size (suc k))

-- no term is larger than the first can be
bound-most : (k : ℕ) → bound k ≤ 6442450945
unfolding bound
bound-most zero = lit≤ tt
bound-most (suc zero) = lit≤ tt
bound-most (suc (suc k)) =
    let b = bound (suc k) in
    let h : 150 * b ≤ 100 * suc (suc k) * 6442450944 = omega (arith, bound-most (suc k)) in
    omega (arith, div-le_of_le-mul (100 * suc (suc k)) h)

total-most : (k : ℕ) → total k ≤ suc k * 6442450945
unfolding total
total-most zero = bound-most zero
total-most (suc k) = omega (arith, total-most k, bound-most (suc k))

-- ---- what the functions ask at a turn k below 24
module _ {over under : ℕ} (x : Exponent over under) (k : ℕ) (few : k < 24) where
  pub term_fits : TermFits over under (term_of over under k) (k + 1)
  term_fits =
      let over-most : over ≤ 161250 = omega (arith, x.small, x.mild) in
      let room : over * 6442450945 < 2 ^ 63 = omega (arith, over-most) in
      record {
        some = omega (arith, mul-le-mul_right (k + 1) x.some);
        step = size_fits {m = under * (k + 1)} _ (omega (arith, mul-le-mul x.small (le_refl (k + 1)))) (le_refl _);
        times = scaled_fits (pos over) room (le_refl over) (wider-size (bound-most k) (term-size x k));
      }

  pub with-fits : SumFits (sum_to over under k) (term_of over under (k + 1)) × DifferenceFits (sum_to over under k) (term_of over under (k + 1))
  with-fits =
      let sum = sum-total x k in
      let t = term-size x (k + 1) in
      let room : total k + bound (k + 1) < 2 ^ 63 = omega (arith, total-most k, bound-most (k + 1)) in
      (sum_fits room sum t, difference-fits room sum t)

-- the last term is a unit at most
pub last-size : {over under : ℕ} → Exponent over under → Sized 1 (term_of over under 24)
unfolding bound
last-size x = wider-size (lit≤ {m = bound 24} tt) (term-size x 24)

-- the ends of the whole are within 2 · 10¹⁰ of zero
pub exponential-size : {over under : ℕ} → Exponent over under → Sized 20000000000 (exponential_of over under)
unfolding exponential_of total bound
exponential-size x =
    record {
      lower = (wider-size (lit≤ {m = total 23} tt) (sum-total x 23)).lower;
      upper = (wider-size (lit≤ {m = total 24} tt) (sum-total x 24)).upper;
    }
