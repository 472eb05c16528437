-- The laws of `specs/Walk.antt`: a turn of a loop that goes through places, and what its end tells. Assumes nothing.
use mathlib.Core.Path.{◌≡◌, refl, sym, ap, ◌∙◌}
use mathlib.Core.Bool.{Bool, true, false, cond}
use mathlib.Core.List.{List, [], ◌∷◌, ◌++◌, append_assoc}
use Prim.Native.Nat.{ℕ, zero, suc, ◌+◌, ◌-◌, ◌*◌, ◌<◌, ◌≤◌}
use native.Mathlib.Numerals.{add-one}
use native.Mathlib.Omega.{arith}
use lib.ListN.{length, get_or, set, drop, length-append}
use lib.Seq.{drop-cons, set_at, append_snoc}
use Rattle.walk.specs.Walk.{in_turn, scan, pairs}

-- one step more
pub in_turn-more : {S : Type 0} (step : S → ℕ → S) (s : S) (k : ℕ) → in_turn step s (k + 1) ≡ step (in_turn step s k) k
in_turn-more step s k = ap (in_turn step s) (add-one k)

-- a turn of a loop that is a step: s is the state at its head, and s' after it
pub in_turn-next : {S : Type 0} (step : S → ℕ → S) (s₀ : S) (k : ℕ) {s s' : S}
    → s ≡ in_turn step s₀ k → s' ≡ step s k → s' ≡ in_turn step s₀ (k + 1)
in_turn-next step s₀ k e f = f ∙ ap (λ (x : _). step x k) e ∙ sym (in_turn-more step s₀ k)

-- what each step keeps, all keep
pub in_turn-keeps : {S A : Type 0} (f : S → A) (step : S → ℕ → S) → ((s : S) (k : ℕ) → f (step s k) ≡ f s)
    → (s : S) (k : ℕ) → f (in_turn step s k) ≡ f s
in_turn-keeps f step keeps s zero = refl
in_turn-keeps f step keeps s (suc k) = keeps (in_turn step s k) k ∙ in_turn-keeps f step keeps s k

-- what is left of n at k, where k is below n
left : (n k : ℕ) → k < n → n - k ≡ suc (n - (k + 1))
left n k h = omega arith

module _ {A : Type 0} (good : ℕ → Bool) (out done : ℕ → A) where
  -- a search below n at k: by what second k is
  at : (n k : ℕ) → k < n → {b : Bool} → good k ≡ b → scan good out done k (n - k) ≡ cond b (scan good out done (k + 1) (n - (k + 1))) (out k)
  at n k h e =
      ap (scan good out done k) (left n k h) ∙ ap (λ (b : Bool). cond b (scan good out done (k + 1) (n - (k + 1))) (out k)) e

  -- good: it goes on
  pub scan-on : (n k : ℕ) → k < n → good k ≡ true → scan good out done k (n - k) ≡ scan good out done (k + 1) (n - (k + 1))
  scan-on n k h e = at n k h e

  -- not good: it ends there
  pub scan-out : (n k : ℕ) → k < n → good k ≡ false → scan good out done k (n - k) ≡ out k
  scan-out n k h e = at n k h e

  -- the first that is not good, of n from the start
  pub scan-first : (n k : ℕ) → k < n → ((i : ℕ) → i < k → good i ≡ true) → good k ≡ false → scan good out done 0 n ≡ out k
  scan-first n k l all bad =
      let whole : n ≡ n - 0 = omega arith in
      ap (scan good out done 0) whole ∙ from k 0 (omega arith)
    where
      from : (more m : ℕ) → k ≡ more + m → scan good out done m (n - m) ≡ out k
      from zero m is =
          let here : m ≡ k = omega arith in
          ap (λ (m : ℕ). scan good out done m (n - m)) here ∙ scan-out n k l bad
      from (suc more) m is = scan-on n m (omega arith) (all m (omega arith)) ∙ from more (m + 1) (omega arith)

  -- none is left
  pub scan-done : (n k : ℕ) → n ≤ k → scan good out done k (n - k) ≡ done k
  scan-done n k h =
      let e : n - k ≡ 0 = omega arith in
      ap (scan good out done k) e

  -- a search that says what `out` never says found every second good
  module _ (a : A) (never : (k : ℕ) → out k ≡ a → ⊥) where
    first_good : (b : Bool) (rest : A) (k : ℕ) → cond b rest (out k) ≡ a → (b ≡ true) × (rest ≡ a)
    first_good true rest k e = (refl, e)
    first_good false rest k e = absurd (never k e)

    pub scan-all : (k n : ℕ) → scan good out done k n ≡ a → (j : ℕ) → j < n → good (k + j) ≡ true
    scan-all k zero e j l = absurd (omega arith)
    scan-all k (suc n) e zero l =
        let same : k + 0 ≡ k = omega arith in
        ap good same ∙ (first_good (good k) (scan good out done (k + 1) n) k e).0
    scan-all k (suc n) e (suc j) l =
        let same : k + suc j ≡ k + 1 + j = omega arith in
        ap good same ∙ scan-all (k + 1) n (first_good (good k) (scan good out done (k + 1) n) k e).1 j (omega arith)

    pub all-good : (n : ℕ) → scan good out done 0 n ≡ a → (k : ℕ) → k < n → good k ≡ true
    all-good n e k l =
        let same : k ≡ 0 + k = omega arith in
        ap good same ∙ scan-all 0 n e k l

module _ (one other : ℕ → ℕ) where
  -- two bytes a second
  pub pairs-length : (k : ℕ) → length (pairs one other k) ≡ 2 * k
  pairs-length zero = refl
  pairs-length (suc k) =
      let h : length (pairs one other k) ≡ 2 * k = pairs-length k in
      simp length-append (omega arith)

  pairs-more : (k : ℕ) → pairs one other (k + 1) ≡ pairs one other k ++ (one k ∷ other k ∷ [])
  pairs-more k = ap (pairs one other) (add-one k)

-- two stores behind p, whose length is m, in p followed by what d has from m on
two-stores : (p d : List ℕ) (m a b : ℕ) → length p ≡ m → m + 1 < length d
    → set (set (p ++ drop m d) m a) (m + 1) b ≡ (p ++ (a ∷ b ∷ [])) ++ drop (m + 2) d
two-stores p d m a b e l =
    let first : drop m d ≡ get_or d m 0 ∷ drop (suc m) d = drop-cons d m 0 (omega arith) in
    let second : drop (suc m) d ≡ get_or d (suc m) 0 ∷ drop (suc (suc m)) d = drop-cons d (suc m) 0 (omega arith) in
    let n : m + 2 ≡ suc (suc m) = omega arith in
    let len : length (p ++ (a ∷ [])) ≡ m + 1 = simp length-append (omega arith) in
    ap (λ (r : List ℕ). set (set (p ++ r) m a) (m + 1) b) (first ∙ ap (λ (r : List ℕ). get_or d m 0 ∷ r) second)
    ∙ ap (λ (r : List ℕ). set r (m + 1) b) (set_at p (get_or d m 0) _ a m e ∙ sym (append_snoc p a _))
    ∙ set_at (p ++ (a ∷ [])) (get_or d (suc m) 0) _ b (m + 1) len
    ∙ simp append_assoc (ap (λ (k : ℕ). p ++ (a ∷ b ∷ drop k d)) (sym n))

-- and four
pub four-stores : (p d : List ℕ) (m a b c e : ℕ) → length p ≡ m → m + 3 < length d
    → set (set (set (set (p ++ drop m d) m a) (m + 1) b) (m + 2) c) (m + 3) e ≡ (p ++ (a ∷ b ∷ c ∷ e ∷ [])) ++ drop (m + 4) d
four-stores p d m a b c e long room =
    let next : length (p ++ (a ∷ b ∷ [])) ≡ m + 2 = simp length-append (omega (arith, long)) in
    let third : m + 3 ≡ m + 2 + 1 = omega arith in
    let last : m + 2 + 2 ≡ m + 4 = omega arith in
    (λ i. set (set (two-stores p d m a b long (omega arith) i) (m + 2) c) (third i) e)
    ∙ two-stores (p ++ (a ∷ b ∷ [])) d (m + 2) c e next (omega arith)
    ∙ (λ i. append_assoc p (a ∷ b ∷ []) (c ∷ e ∷ []) i ++ drop (last i) d)

-- a turn of a loop that writes two bytes a second over d
pub pairs_next : (one other : ℕ → ℕ) (d : List ℕ) (k : ℕ) {row : List ℕ} {a b : ℕ} → row ≡ pairs one other k ++ drop (2 * k) d
    → a ≡ one k → b ≡ other k → 2 * k + 1 < length d → set (set row (2 * k) a) (2 * k + 1) b ≡ pairs one other (k + 1) ++ drop (2 * (k + 1)) d
pairs_next one other d k e ea eb l =
    let n : 2 * k + 2 ≡ 2 * (k + 1) = omega arith in
    (λ i. set (set (e i) (2 * k) (ea i)) (2 * k + 1) (eb i)) ∙ two-stores (pairs one other k) d (2 * k) (one k) (other k) (pairs-length one other k) l
    ∙ (λ i. sym (pairs-more one other k) i ++ drop (n i) d)
