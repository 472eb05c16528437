-- What is said of each place the same is said of the whole the same; and a search where every place is good comes to its end. Assumes nothing.
use mathlib.Core.Path.{◌≡◌, refl, ap, ◌∙◌}
use mathlib.Core.Bool.{Bool, true, cond}
use Prim.Native.Nat.{ℕ, zero, suc, ◌+◌, ◌<◌}
use native.Mathlib.Omega.{arith}
use Rattle.walk.specs.Walk.{in_turn, scan}

pub in_turn-same : {S : Type 0} (step step' : S → ℕ → S) (s : S) (n : ℕ) → ((s : S) (k : ℕ) → k < n → step s k ≡ step' s k) → in_turn step s n ≡ in_turn step' s n
in_turn-same step step' s zero same = refl
in_turn-same step step' s (suc n) same =
    same (in_turn step s n) n (omega arith) ∙ ap (λ (x : _). step' x n) (in_turn-same step step' s n (λ s k l. same s k (omega arith)))

module _ {A : Type 0} (out done : ℕ → A) where
  pub scan-same : (good good' : ℕ → Bool) (k n : ℕ) → ((j : ℕ) → j < k + n → good j ≡ good' j) → scan good out done k n ≡ scan good' out done k n
  scan-same good good' k zero same = refl
  scan-same good good' k (suc n) same =
      (λ i. cond (same k (omega arith) i) (scan-same good good' (k + 1) n (λ j l. same j (omega arith)) i) (out k))

  pub scan_good : (good : ℕ → Bool) (k n : ℕ) → ((j : ℕ) → j < k + n → good j ≡ true) → scan good out done k n ≡ done (k + n)
  scan_good good k zero each = let e : k ≡ k + 0 = omega arith in ap done e
  scan_good good k (suc n) each =
      let e : k + 1 + n ≡ k + suc n = omega arith in
      ap (λ (b : Bool). cond b (scan good out done (k + 1) n) (out k)) (each k (omega arith)) ∙ scan_good good (k + 1) n (λ j l. each j (omega arith)) ∙ ap done e
