-- The laws of `pairs`: put together from parts, read at each place, and a list that is such pairs. Assumes nothing.
use mathlib.Core.Path.{◌≡◌, refl, sym, ap, ◌∙◌}
use mathlib.Core.List.{List, [], ◌∷◌, ◌++◌, append_assoc, append-nil}
use Prim.Native.Nat.{ℕ, zero, suc, ◌+◌, ◌*◌, ◌<◌}
use native.Mathlib.Decide.{dec_lt}
use native.Mathlib.Omega.{arith}
use lib.ListN.{length, get_or, take, get_or-append}
use lib.Seq.{get_or_at, ext_get_or, take_at, get_or-append-add}
use Rattle.walk.specs.Walk.{pairs}
use Rattle.walk.proofs.Walk.{pairs-length}

module _ (one other : ℕ → ℕ) where
  -- so many, and then more
  pub pairs-on : (n more : ℕ) → pairs one other n ++ pairs (λ i. one (n + i)) (λ i. other (n + i)) more ≡ pairs one other (n + more)
  pairs-on n zero =
      let same : n ≡ n + 0 = omega arith in
      append-nil (pairs one other n) ∙ ap (pairs one other) same
  pairs-on n (suc more) =
      let same : suc (n + more) ≡ n + suc more = omega arith in
      sym (append_assoc (pairs one other n) (pairs (λ i. one (n + i)) (λ i. other (n + i)) more) (one (n + more) ∷ other (n + more) ∷ []))
      ∙ ap (λ (l : List ℕ). l ++ (one (n + more) ∷ other (n + more) ∷ [])) (pairs-on n more)
      ∙ ap (pairs one other) same

  pub pairs-front : (n more : ℕ) → take (2 * n) (pairs one other (n + more)) ≡ pairs one other n
  pairs-front n more =
      ap (take (2 * n)) (sym (pairs-on n more))
      ∙ take_at (pairs one other n) (pairs (λ i. one (n + i)) (λ i. other (n + i)) more) (2 * n) (pairs-length one other n)

  -- the two bytes of a place
  pub pairs-at : (n k : ℕ) → k < n → (get_or (pairs one other n) (2 * k) 0 ≡ one k) × (get_or (pairs one other n) (2 * k + 1) 0 ≡ other k)
  pairs-at zero k l = absurd (omega arith)
  pairs-at (suc n) k l = go (dec_lt k n) (pairs-at n k)
    where
      go : Dec (k < n) → (k < n → (get_or (pairs one other n) (2 * k) 0 ≡ one k) × (get_or (pairs one other n) (2 * k + 1) 0 ≡ other k))
          → (get_or (pairs one other (suc n)) (2 * k) 0 ≡ one k) × (get_or (pairs one other (suc n)) (2 * k + 1) 0 ≡ other k)
      go (yes below) earlier =
          let long : length (pairs one other n) ≡ 2 * n = pairs-length one other n in (
            get_or-append (pairs one other n) (one n ∷ other n ∷ []) 0 (2 * k) (omega (arith, long)) ∙ (earlier below).0,
            get_or-append (pairs one other n) (one n ∷ other n ∷ []) 0 (2 * k + 1) (omega (arith, long)) ∙ (earlier below).1,
          )
      go (no above) earlier =
          let same : k ≡ n = omega arith in (
            rw same (get_or_at (pairs one other n) (one n) (other n ∷ []) 0 (2 * n) (pairs-length one other n)),
            rw same (odd n),
          )
        where
          odd : (n : ℕ) → get_or (pairs one other n ++ (one n ∷ other n ∷ [])) (2 * n + 1) 0 ≡ other n
          odd n =
              let long : 2 * n + 1 ≡ length (pairs one other n) + 1 = ap (λ (m : ℕ). m + 1) (sym (pairs-length one other n)) in
              ap (λ (i : ℕ). get_or (pairs one other n ++ (one n ∷ other n ∷ [])) i 0) long
              ∙ get_or-append-add (pairs one other n) (one n ∷ other n ∷ []) 1 0

-- the same at each of n places
pub pairs-both : (one one' other other' : ℕ → ℕ) (n : ℕ) → ((k : ℕ) → k < n → one k ≡ one' k) → ((k : ℕ) → k < n → other k ≡ other' k)
    → pairs one other n ≡ pairs one' other' n
pairs-both one one' other other' zero p q = refl
pairs-both one one' other other' (suc n) p q =
    let before = pairs-both one one' other other' n (λ k l. p k (omega arith)) (λ k l. q k (omega arith)) in
    let here = p n (omega arith) in
    let there = q n (omega arith) in
    (λ i. before i ++ (here i ∷ there i ∷ []))

-- a byte is the one or the other of a place
data Place (i : ℕ) : Type 0 where
  even : (k : ℕ) → i ≡ 2 * k → Place i
  odd : (k : ℕ) → i ≡ 2 * k + 1 → Place i

place : (i : ℕ) → Place i
place zero = even 0 (omega arith)
place (suc i) = go (place i)
  where
    go : Place i → Place (suc i)
    go (even k e) = odd k (omega arith)
    go (odd k e) = even (k + 1) (omega arith)

pub pairs-are : (one other : ℕ → ℕ) (l : List ℕ) (n : ℕ) → length l ≡ 2 * n → ((k : ℕ) → k < n → get_or l (2 * k) 0 ≡ one k)
    → ((k : ℕ) → k < n → get_or l (2 * k + 1) 0 ≡ other k) → l ≡ pairs one other n
pairs-are one other l n long ones others =
    ext_get_or 0 l (pairs one other n) (long ∙ sym (pairs-length one other n)) (λ i b. go i b (place i))
  where
    go : (i : ℕ) → i < length l → Place i → get_or l i 0 ≡ get_or (pairs one other n) i 0
    go i b (even k e) = rw e (ones k (omega arith) ∙ sym (pairs-at one other n k (omega arith)).0)
    go i b (odd k e) = rw e (others k (omega arith) ∙ sym (pairs-at one other n k (omega arith)).1)
