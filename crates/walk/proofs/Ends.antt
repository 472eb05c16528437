-- Where a search ends, as a property: there is one such place only. Assumes nothing.
use mathlib.Core.Path.{◌≡◌, refl, sym, ap, ◌∙◌}
use mathlib.Core.Bool.{Bool, true, false, cond, false≢true}
use Prim.Native.Nat.{ℕ, zero, suc, ◌+◌, ◌≤◌, ◌<◌}
use native.Mathlib.Decide.{dec_lt}
use native.Mathlib.Omega.{arith}
use Rattle.walk.specs.Walk.{scan}

-- all before it is good, and it is not, or it is the end
pub record Ends (good : ℕ → Bool) (n k e : ℕ) : Type 0 where
  pub low : k ≤ e
  pub high : e ≤ n
  pub inside : (i : ℕ) → k ≤ i → i < e → good i ≡ true
  pub beyond : e < n → good e ≡ false

module _ (good : ℕ → Bool) (n : ℕ) where
  pub search-ends : (k count : ℕ) → n ≡ k + count → Ends good n k (scan good (λ i. i) (λ i. i) k count)
  search-ends k zero e = record {
    low = omega arith;
    high = omega arith;
    inside = λ i h l. absurd (let z : ⊥ = omega arith in z);
    beyond = λ l. absurd (let z : ⊥ = omega arith in z);
  }
  search-ends k (suc count) e = go (good k) refl (search-ends (k + 1) count (omega arith))
    where
      go : (b : Bool) → good k ≡ b → Ends good n (k + 1) (scan good (λ i. i) (λ i. i) (k + 1) count)
          → Ends good n k (cond b (scan good (λ i. i) (λ i. i) (k + 1) count) k)
      go true is rest =
          let low = rest.low in
          record {
            low = omega arith;
            high = rest.high;
            inside = λ i h l. first i h l (dec_lt k i);
            beyond = rest.beyond;
          }
        where
          first : (i : ℕ) → k ≤ i → i < scan good (λ i. i) (λ i. i) (k + 1) count → Dec (k < i) → good i ≡ true
          first i h l (yes past) = rest.inside i (omega arith) l
          first i h l (no here) =
              let same : i ≡ k = omega arith in
              ap good same ∙ is
      go false is rest = record {
        low = omega arith;
        high = omega arith;
        inside = λ i h l. absurd (let z : ⊥ = omega arith in z);
        beyond = λ l. is;
      }

  -- no search ends before what is all good
  pub ends_low : (k e m : ℕ) → Ends good n k e → m ≤ n → ((i : ℕ) → k ≤ i → i < m → good i ≡ true) → m ≤ e
  ends_low k e m ends h all = go (dec_lt e m)
    where
      go : Dec (e < m) → m ≤ e
      go (yes short) =
          let low = ends.low in
          absurd (false≢true (sym (ends.beyond (omega arith)) ∙ all e low short))
      go (no far) = omega arith

  -- nor behind the first that is not good
  pub ends_at : (k e m : ℕ) → Ends good n k e → k ≤ m → m ≤ n → ((i : ℕ) → k ≤ i → i < m → good i ≡ true) → (m < n → good m ≡ false) → e ≡ m
  ends_at k e m ends h l all out = go (dec_lt m e) (ends_low k e m ends l all)
    where
      go : Dec (m < e) → m ≤ e → e ≡ m
      go (yes far) low =
          let high = ends.high in
          absurd (false≢true (sym (out (omega arith)) ∙ ends.inside m h far))
      go (no near) low = omega arith
