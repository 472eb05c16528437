-- Counting places: one of them is no more than all; where none holds there are none; and what holds beyond another, by itself. Assumes nothing.
use mathlib.Core.Path.{◌≡◌, refl, sym, ap, ◌∙◌}
use mathlib.Core.Bool.{Bool, true, false, not, cond, ◌&&◌, true≢false}
use Prim.Native.Nat.{ℕ, zero, suc, ◌+◌, ◌≤◌, ◌<◌}
use native.Mathlib.Decide.{dec_lt}
use native.Mathlib.Omega.{arith}
use lib.Dec.{eqb, ltb}
use borrow.Author.Tests.{eq-eqb, ne_eqb, lt-ltb}
use Rattle.shift.specs.Speeds.{count}

-- one of the places, and all of them
pub count-has : (holds : ℕ → Bool) (n i : ℕ) → i < n → cond (holds i) 1 0 ≤ count holds n
count-has holds zero i l = absurd (omega arith)
count-has holds (suc n) i l = go (dec_lt i n) (count-has holds n i)
  where
    go : Dec (i < n) → (i < n → cond (holds i) 1 0 ≤ count holds n) → cond (holds i) 1 0 ≤ count holds (suc n)
    go (yes below) earlier = let h = earlier below in omega arith
    go (no above) earlier =
        let same : i ≡ n = omega arith in
        rw same (omega arith)

pub count_none : (holds : ℕ → Bool) (n : ℕ) → ((i : ℕ) → i < n → holds i ≡ false) → count holds n ≡ 0
count_none holds zero never = refl
count_none holds (suc n) never = (λ j. count_none holds n (λ i l. never i (omega arith)) j + cond (never n (omega arith) j) 1 0)

-- what is counted as none holds nowhere
pub none-holds : (holds : ℕ → Bool) (n : ℕ) → count holds n ≡ 0 → (i : ℕ) → i < n → holds i ≡ false
none-holds holds n none i l = go (holds i) (count-has holds n i l)
  where
    go : (b : Bool) → cond b 1 0 ≤ count holds n → b ≡ false
    go true h = absurd (omega arith)
    go false h = refl

-- nothing holds from n to m
pub count-rest : (holds : ℕ → Bool) (n m : ℕ) → ((i : ℕ) → n ≤ i → i < n + m → holds i ≡ false) → count holds (n + m) ≡ count holds n
count-rest holds n zero never = let e : n + 0 ≡ n = omega arith in ap (count holds) e
count-rest holds n (suc m) never =
    let e : n + suc m ≡ suc (n + m) = omega arith in
    let before = count-rest holds n m (λ i a l. never i a (omega arith)) in
    ap (count holds) e ∙ rw (never (n + m) (omega arith) (omega arith)) (omega (arith, before))

-- where whatever `few` holds of `many` holds too: those of `few`, and the others
pub count-split : (few many : ℕ → Bool) (n : ℕ) → ((i : ℕ) → i < n → few i ≡ true → many i ≡ true)
    → count many n ≡ count few n + count (λ i. many i && not (few i)) n
count-split few many zero within = refl
count-split few many (suc n) within =
    let before = count-split few many n (λ i l. within i (omega arith)) in
    let one = go (few n) (many n) (within n (omega arith)) in
    omega arith
  where
    go : (f m : Bool) → (f ≡ true → m ≡ true) → cond m 1 0 ≡ cond f 1 0 + cond (m && not f) 1 0
    go true true h = refl
    go true false h = absurd (true≢false (sym (h refl)))
    go false true h = refl
    go false false h = refl

-- two counts differ where something is left between them
pub differ : (few many between : ℕ) → many ≡ few + between → not (eqb few many) ≡ ltb 0 between
differ few many zero e = let same : few ≡ many = omega arith in rw (eq-eqb few many same)
differ few many (suc between) e = rw (ne_eqb few many (λ same. omega arith), lt-ltb 0 (suc between) (omega arith))
