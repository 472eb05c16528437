-- The list of the seconds for which something holds: a turn of the loop that counts them, and of the one that stores them. Assumes nothing.
use mathlib.Core.Path.{◌≡◌, refl, sym, ap, ◌∙◌}
use mathlib.Core.Bool.{Bool, true, false, cond}
use mathlib.Core.List.{List, [], ◌∷◌, ◌++◌}
use Prim.Native.Nat.{ℕ, zero, suc, ◌+◌, ◌-◌, ◌≤◌, ◌<◌}
use native.Mathlib.Numerals.{add-one}
use native.Mathlib.Omega.{arith}
use lib.ListN.{length, get_or, set, drop, length-append}
use lib.Seq.{drop-cons, set_at, append_snoc}
use Rattle.draft.specs.Draft.{seconds_where}

module _ (holds : ℕ → Bool) where
  pub where-none : seconds_where holds 0 ≡ []
  unfolding seconds_where
  where-none = refl

  pub where-on : (k : ℕ) {b : Bool} → holds k ≡ b → seconds_where holds (k + 1) ≡ cond b (seconds_where holds k ++ ((k + 1) ∷ [])) (seconds_where holds k)
  unfolding seconds_where
  where-on k e =
      ap (seconds_where holds) (add-one k) ∙ (λ i. cond (e i) (seconds_where holds k ++ (sym (add-one k) i ∷ [])) (seconds_where holds k))

  -- one more, or none
  count_by : (k : ℕ) (b : Bool) → holds k ≡ b → length (seconds_where holds (k + 1)) ≡ length (seconds_where holds k) + cond b 1 0
  count_by k true e = ap length (where-on k e) ∙ length-append (seconds_where holds k) ((k + 1) ∷ [])
  count_by k false e = let same = ap length (where-on k e) in omega (arith, same)

  pub count-on : (k : ℕ) {b : Bool} → holds k ≡ b → length (seconds_where holds (k + 1)) ≡ length (seconds_where holds k) + cond b 1 0
  count-on k {b} e = count_by k b e

  count-step : (k : ℕ) → (length (seconds_where holds k) ≤ length (seconds_where holds (k + 1))) × (length (seconds_where holds (k + 1)) ≤ length (seconds_where holds k) + 1)
  count-step k = go (holds k) refl
    where
      go : (b : Bool) → holds k ≡ b
          → (length (seconds_where holds k) ≤ length (seconds_where holds (k + 1))) × (length (seconds_where holds (k + 1)) ≤ length (seconds_where holds k) + 1)
      go true e = let on = count-on k e in (omega (arith, on), omega (arith, on))
      go false e = let on = count-on k e in (omega (arith, on), omega (arith, on))

  -- m seconds more
  count-more : (k m : ℕ) → length (seconds_where holds k) ≤ length (seconds_where holds (k + m))
  count-more k zero =
      let same : k ≡ k + 0 = omega arith in
      let is = ap (λ (j : ℕ). length (seconds_where holds j)) same in
      omega (arith, is)
  count-more k (suc m) =
      let before = count-more k m in
      let step = (count-step (k + m)).0 in
      let same : k + m + 1 ≡ k + suc m = omega arith in
      let is = ap (λ (j : ℕ). length (seconds_where holds j)) same in
      omega (arith, before, step, is)

  count-rises : (k n : ℕ) → k ≤ n → length (seconds_where holds k) ≤ length (seconds_where holds n)
  count-rises k n l =
      let same : k + (n - k) ≡ n = omega arith in
      let is = ap (λ (j : ℕ). length (seconds_where holds j)) same in
      let more = count-more k (n - k) in
      omega (arith, is, more)

  pub count_most : (k : ℕ) → length (seconds_where holds k) ≤ k
  count_most zero = let none = ap length where-none in omega (arith, none)
  count_most (suc k) =
      let before = count_most k in
      let is = ap (λ (j : ℕ). length (seconds_where holds j)) (add-one k) in
      let step = (count-step k).1 in
      omega (arith, before, is, step)

  -- where one of the later seconds is to be listed, there is room for it
  pub room-left : (k n room : ℕ) → k < n → holds k ≡ true → length (seconds_where holds n) ≤ room → length (seconds_where holds k) < room
  room-left k n room l e fits =
      let on = count-on k e in
      let rises = count-rises (k + 1) n (omega arith) in
      omega (arith, on, rises)

  -- a turn of the loop that stores: `at` seconds are listed, and the rest is what d has there
  store-on : (d : List ℕ) (k at : ℕ) {l : List ℕ} → at ≡ length (seconds_where holds k) → l ≡ seconds_where holds k ++ drop at d → holds k ≡ true → at < length d
      → set l at (k + 1) ≡ seconds_where holds (k + 1) ++ drop (at + 1) d
  store-on d k at is e here room =
      (λ i. set (e i) at (k + 1))
      ∙ ap (λ (r : List ℕ). set (seconds_where holds k ++ r) at (k + 1)) (drop-cons d at 0 room)
      ∙ set_at (seconds_where holds k) (get_or d at 0) (drop (suc at) d) (k + 1) at (sym is)
      ∙ sym (append_snoc (seconds_where holds k) (k + 1) (drop (suc at) d))
      ∙ (λ i. sym (where-on k here) i ++ drop (sym (add-one at) i) d)

  store_by : (d : List ℕ) (k at : ℕ) {l : List ℕ} → at ≡ length (seconds_where holds k) → l ≡ seconds_where holds k ++ drop at d → (b : Bool) → holds k ≡ b
      → (b ≡ true → at < length d) → cond b (set l at (k + 1)) l ≡ seconds_where holds (k + 1) ++ drop (at + cond b 1 0) d
  store_by d k at is e true here room = store-on d k at is e here (room refl)
  store_by d k at is e false here room =
      let same : at ≡ at + 0 = omega arith in
      e ∙ (λ i. sym (where-on k here) i ++ drop (same i) d)

  pub list_on : (d : List ℕ) (k at : ℕ) {l : List ℕ} {b : Bool} → at ≡ length (seconds_where holds k) → l ≡ seconds_where holds k ++ drop at d → holds k ≡ b
      → (b ≡ true → at < length d) → cond b (set l at (k + 1)) l ≡ seconds_where holds (k + 1) ++ drop (at + cond b 1 0) d
  list_on d k at {b = b} is e here room = store_by d k at is e b here room
