-- A loop that stores one thing at each place in turn, over a list of its own length, leaves the list of them all. Assumes nothing.
use mathlib.Core.Path.{◌≡◌, refl, sym, ap, ◌∙◌}
use mathlib.Core.List.{List, [], ◌∷◌, ◌++◌, append-nil}
use Prim.Native.Nat.{ℕ, zero, suc, ◌+◌, ◌<◌}
use native.Mathlib.Decide.{dec_lt}
use native.Mathlib.Numerals.{add-one}
use native.Mathlib.Omega.{arith}
use lib.ListN.{length, get_or, set, drop, length-append, get_or-append}
use lib.Seq.{drop-cons, drop-length, set_at, append_snoc, get_or_at}
use Rattle.walk.specs.Walk.{listed}

module _ {A : Type 0} (at : ℕ → A) where
  pub listed-length : (n : ℕ) → length (listed at n) ≡ n
  unfolding listed
  listed-length zero = refl
  listed-length (suc n) =
      let h : length (listed at n) ≡ n = listed-length n in
      simp length-append (omega arith)

  -- before the first turn
  pub listed-none : (d : List A) → d ≡ listed at 0 ++ drop 0 d
  unfolding listed
  listed-none d = refl

  -- a turn of the loop: k places are stored, and the rest is what d has there
  pub listed_next : (d : List A) (k : ℕ) {l : List A} {a : A} → l ≡ listed at k ++ drop k d → a ≡ at k → k < length d
      → set l k a ≡ listed at (k + 1) ++ drop (k + 1) d
  unfolding listed
  listed_next d k e ea room =
      (λ i. set (e i) k (ea i))
      ∙ ap (λ (r : List A). set (listed at k ++ r) k (at k)) (drop-cons d k (at k) room)
      ∙ set_at (listed at k) (get_or d k (at k)) (drop (suc k) d) (at k) k (listed-length k)
      ∙ sym (append_snoc (listed at k) (at k) (drop (suc k) d))
      ∙ ap (λ (n : ℕ). listed at n ++ drop n d) (sym (add-one k))

  -- after the last turn
  pub listed-all : (d : List A) (n : ℕ) {l : List A} → l ≡ listed at n ++ drop n d → length d ≡ n → l ≡ listed at n
  listed-all d n e long =
      e ∙ ap (λ (k : ℕ). listed at n ++ drop k d) (sym long) ∙ ap (λ (r : List A). listed at n ++ r) (drop-length d) ∙ append-nil (listed at n)

  -- what stands at a place
  pub listed_at : (n k : ℕ) (none : A) → k < n → get_or (listed at n) k none ≡ at k
  unfolding listed
  listed_at zero k none l = absurd (omega arith)
  listed_at (suc n) k none l = go (dec_lt k n) (listed_at n k none)
    where
      go : Dec (k < n) → (k < n → get_or (listed at n) k none ≡ at k) → get_or (listed at n ++ (at n ∷ [])) k none ≡ at k
      go (yes below) earlier =
          let long : length (listed at n) ≡ n = listed-length n in
          get_or-append (listed at n) (at n ∷ []) none k (omega arith) ∙ earlier below
      go (no above) earlier =
          let same : k ≡ n = omega arith in
          ap (λ (i : ℕ). get_or (listed at n ++ (at n ∷ [])) i none) same
          ∙ get_or_at (listed at n) (at n) [] none n (listed-length n)
          ∙ ap at (sym same)
