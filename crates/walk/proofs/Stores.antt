-- A walk that stores one number at each place in turn: a place gets its number at its turn, and has what it had before that. Assumes nothing.
use mathlib.Core.Path.{◌≡◌, refl, ap, ◌∙◌}
use mathlib.Core.List.{List}
use Prim.Native.Nat.{ℕ, zero, suc, ◌<◌, ◌≤◌}
use native.Mathlib.Decide.{dec_lt}
use native.Mathlib.Omega.{arith}
use lib.ListN.{length, get_or, set, length-set}
use lib.Seq.{get_or-set_same, get_or-set_other}
use Rattle.walk.specs.Walk.{in_turn}
use Rattle.walk.proofs.Walk.{in_turn-keeps}

-- a walk over states that hold bytes: its step at k stores one number, at the place of k
pub record Storing (S : Type 0) : Type 0 where
  pub bytes : S → List ℕ
  pub step : S → ℕ → S
  pub place : ℕ → ℕ
  pub new : S → ℕ → ℕ
  pub stores : (s : S) (k : ℕ) → bytes (step s k) ≡ set (bytes s) (place k) (new s k)
  pub apart : (j k : ℕ) → place j ≡ place k → j ≡ k

module _ {S : Type 0} (w : Storing S) where
  -- the bytes after n steps
  abbrev after : S → ℕ → List ℕ
  after s n = w.bytes (in_turn w.step s n)

  pub stores-length : (s : S) (n : ℕ) → length (after s n) ≡ length (w.bytes s)
  stores-length =
      in_turn-keeps (λ (s : S). length (w.bytes s)) w.step
      (λ s k. ap length (w.stores s k) ∙ length-set (w.bytes s) (w.place k) (w.new s k))

  -- what is no place of the walk
  pub not-stored : (i : ℕ) → ((k : ℕ) → i ≡ w.place k → ⊥) → (s : S) (n : ℕ) → get_or (after s n) i 0 ≡ get_or (w.bytes s) i 0
  not-stored i off =
      in_turn-keeps (λ (s : S). get_or (w.bytes s) i 0) w.step
      (λ s k. ap (λ (l : List ℕ). get_or l i 0) (w.stores s k) ∙ get_or-set_other (w.bytes s) (w.place k) i (w.new s k) 0 (off k))

  other-turn : (s : S) (n k : ℕ) → (k ≡ n → ⊥) → get_or (w.bytes (w.step s n)) (w.place k) 0 ≡ get_or (w.bytes s) (w.place k) 0
  other-turn s n k off =
      ap (λ (l : List ℕ). get_or l (w.place k) 0) (w.stores s n)
      ∙ get_or-set_other (w.bytes s) (w.place n) (w.place k) (w.new s n) 0 (λ (e : w.place k ≡ w.place n). off (w.apart k n e))

  own_turn : (s : S) (k : ℕ) → w.place k < length (w.bytes s) → get_or (w.bytes (w.step s k)) (w.place k) 0 ≡ w.new s k
  own_turn s k room =
      ap (λ (l : List ℕ). get_or l (w.place k) 0) (w.stores s k) ∙ get_or-set_same (w.bytes s) (w.place k) (w.new s k) 0 room

  -- before its turn
  pub not_yet : (s : S) (n k : ℕ) → n ≤ k → get_or (after s n) (w.place k) 0 ≡ get_or (w.bytes s) (w.place k) 0
  not_yet s zero k l = refl
  not_yet s (suc n) k l = other-turn (in_turn w.step s n) n k (λ (e : k ≡ n). omega arith) ∙ not_yet s n k (omega arith)

  -- after it
  by_turn : (s : S) (n k : ℕ) → Dec (k < n) → k < suc n → w.place k < length (w.bytes s)
      → (k < n → get_or (after s n) (w.place k) 0 ≡ w.new (in_turn w.step s k) k)
      → get_or (after s (suc n)) (w.place k) 0 ≡ w.new (in_turn w.step s k) k
  by_turn s n k (yes below) l room earlier =
      other-turn (in_turn w.step s n) n k (λ (e : k ≡ n). omega arith) ∙ earlier below
  by_turn s n k (no above) l room earlier =
      let same : n ≡ k = omega arith in
      let kept : length (after s k) ≡ length (w.bytes s) = stores-length s k in
      ap (λ (m : ℕ). get_or (after s (suc m)) (w.place k) 0) same ∙ own_turn (in_turn w.step s k) k (omega arith)

  pub stored : (s : S) (n k : ℕ) → k < n → w.place k < length (w.bytes s) → get_or (after s n) (w.place k) 0 ≡ w.new (in_turn w.step s k) k
  stored s zero k l room = absurd (omega arith)
  stored s (suc n) k l room = by_turn s n k (dec_lt k n) l room (λ below. stored s n k below room)

-- a list with a number put at each of its first n places has them there
abbrev putting : (ℕ → ℕ) → Storing (List ℕ)
putting f = record { bytes = λ l. l; step = λ l k. set l k (f k); place = λ k. k; new = λ l k. f k; stores = λ l k. refl; apart = λ j k e. e }

pub put-at : (f : ℕ → ℕ) (l : List ℕ) (n k : ℕ) → k < n → n ≤ length l → get_or (in_turn (λ l k. set l k (f k)) l n) k 0 ≡ f k
put-at f l n k h room = stored (putting f) l n k h (omega arith)
