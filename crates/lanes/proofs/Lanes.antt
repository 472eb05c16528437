-- The laws of `specs/Lanes.antt`: a line that was put, lane after lane. Assumes nothing.
use mathlib.Core.Path.{◌≡◌, refl, ap, ◌∙◌}
use mathlib.Core.List.{List}
use Prim.Native.Nat.{ℕ, zero, suc, ◌+◌, ◌-◌, ◌*◌, ◌<◌, ◌≤◌}
use native.Mathlib.Omega.{arith}
use lib.ListN.{length, get_or, set, length-set}
use lib.Seq.{get_or-set_same, get_or-set_other}
use Rattle.walk.proofs.Same.{in_turn-same}
use Rattle.walk.proofs.Walk.{in_turn-next, in_turn-keeps}
use Rattle.lanes.specs.Lanes.{lane_at, line_by}

-- what a loop over the lanes has made of m₀ when it comes to lane j: the lanes before it are put in line k
pub record Line (f : List ℕ → ℕ → ℕ) (k : ℕ) (m₀ m : List ℕ) (j : ℕ) : Type 0 where
  pub few : j ≤ 16
  pub long : length m ≡ length m₀
  pub line : m ≡ line_by f k m₀ j

pub line-none : (f : List ℕ → ℕ → ℕ) (k : ℕ) (m : List ℕ) → Line f k m m 0
unfolding line_by
line-none f k m = record { few = omega arith; long = refl; line = refl }

module _ {f : List ℕ → ℕ → ℕ} {k : ℕ} {m₀ m : List ℕ} {j : ℕ} (before : Line f k m₀ m j) where
  -- a lane more
  pub line-next : {m' : List ℕ} → j < 16 → m' ≡ set m (16 * k + j) (f m j) → Line f k m₀ m' (j + 1)
  unfolding line_by
  line-next l is =
      record {
        few = omega arith;
        long = ap length is ∙ length-set m (16 * k + j) (f m j) ∙ before.long;
        line = in_turn-next (λ m j. set m (16 * k + j) (f m j)) m₀ j before.line is;
      }

  pub line-all : (j < 16 → ⊥) → m ≡ line_by f k m₀ 16
  line-all over =
      let all : j ≡ 16 = omega arith in
      before.line ∙ ap (line_by f k m₀) all

-- what says the same of each lane puts the same line
pub line-same : (f g : List ℕ → ℕ → ℕ) → ((m : List ℕ) (j : ℕ) → j < 16 → f m j ≡ g m j) → (k : ℕ) (m : List ℕ) (lanes : ℕ) → lanes ≤ 16 → line_by f k m lanes ≡ line_by g k m lanes
unfolding line_by
line-same f g same k m lanes few = in_turn-same _ _ m lanes (λ m j l. ap (set m (16 * k + j)) (same m j (omega arith)))

module _ (f : List ℕ → ℕ → ℕ) (k : ℕ) where
  pub line-length : (m : List ℕ) (lanes : ℕ) → length (line_by f k m lanes) ≡ length m
  unfolding line_by
  line-length m lanes = in_turn-keeps length (λ m j. set m (16 * k + j) (f m j)) (λ m j. length-set m (16 * k + j) (f m j)) m lanes

  -- what is not one of these lanes of the line stays
  beside : (m : List ℕ) (lanes i : ℕ) → ((j : ℕ) → j < lanes → i ≡ 16 * k + j → ⊥) → get_or (line_by f k m lanes) i 0 ≡ get_or m i 0
  unfolding line_by
  beside m zero i off = refl
  beside m (suc lanes) i off =
      get_or-set_other (line_by f k m lanes) (16 * k + lanes) i (f (line_by f k m lanes) lanes) 0 (off lanes (omega arith))
      ∙ beside m lanes i (λ j l. off j (omega arith))

  pub line_other : (m : List ℕ) (j i : ℕ) → j < 16 → (i ≡ k → ⊥) → lane_at (line_by f k m 16) j i ≡ lane_at m j i
  line_other m j i l apart = beside m 16 (16 * i + j) (λ h few e. apart (omega arith))

  module _ (m : List ℕ) (room : 16 * k + 16 ≤ length m) (j : ℕ) (few : j < 16) where
    -- before its turn a lane is as it was
    not_yet : (i : ℕ) → lane_at (line_by f k m j) j i ≡ lane_at m j i
    not_yet i = beside m j (16 * i + j) (λ h l e. omega arith)

    at_turn : lane_at (line_by f k m (suc j)) j k ≡ f (line_by f k m j) j
    unfolding line_by
    at_turn =
        let long : length (line_by f k m j) ≡ length m = line-length m j in
        get_or-set_same (line_by f k m j) (16 * k + j) (f (line_by f k m j) j) 0 (omega arith)

    later : (more : ℕ) → j + more < 16 → lane_at (line_by f k m (suc (j + more))) j k ≡ lane_at (line_by f k m (suc j)) j k
    unfolding line_by
    later zero h =
        let same : j + 0 ≡ j = omega arith in
        ap (λ (i : ℕ). lane_at (line_by f k m (suc i)) j k) same
    later (suc more) h =
        let same : j + suc more ≡ suc (j + more) = omega arith in
        let rest : List ℕ = line_by f k m (suc (j + more)) in
        ap (λ (i : ℕ). lane_at (line_by f k m (suc i)) j k) same
        ∙ get_or-set_other rest (16 * k + suc (j + more)) (16 * k + j) (f rest (suc (j + more))) 0 (λ e. omega arith)
        ∙ later more (omega arith)

    -- a lane has what f says of it, where f sees of the lines its own lane alone
    pub line_at : ((m' : List ℕ) → ((i : ℕ) → lane_at m' j i ≡ lane_at m j i) → f m' j ≡ f m j) → lane_at (line_by f k m 16) j k ≡ f m j
    line_at own =
        let same : 16 ≡ suc (j + (15 - j)) = omega arith in
        ap (λ (i : ℕ). lane_at (line_by f k m i) j k) same ∙ later (15 - j) (omega arith) ∙ at_turn ∙ own (line_by f k m j) not_yet
