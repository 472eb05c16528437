-- What is promised of mending and turning beyond their definitions (02, M-112), over every draft that is read. The theorems are those of proofs/Mending.antt, Again.antt and
-- Turning.antt.
use Rattle.std.specs.Prelude.{◌≡◌, Bool, true, false, List, [], ℕ, ◌+◌, ◌≤◌, ◌<◌, length, get_or, Ok}
use Rattle.house.specs.House.{version_of, count_of, speed_at, flags_at, zero_at, phase_of, no_shift, no_first, missing_at}
use Rattle.trace.specs.Judging.{judge_trace}
use Rattle.draft.specs.Draft.{judge_draft, mended, turned, list_of}

-- ---- a second in a list, and lists
pub record On (list : List ℕ) (second : ℕ) : Type 0 where
  pub place : ℕ
  pub within : place < length list
  pub is : get_or list place 0 ≡ second

abbrev pub Rising : List ℕ → Type 0
Rising list = (i j : ℕ) → i < j → j < length list → get_or list i 0 < get_or list j 0

-- ---- "Where known seconds stand on both sides of a gap with the same phase, and every speed in the gap and those two is equal": said of second k, with no search
pub record Bounded (draft : List ℕ) (k : ℕ) : Type 0 where
  pub before : ℕ
  pub after : ℕ
  pub earlier : before < k
  pub later : k < after
  pub inside : after < count_of draft
  pub gap : (i : ℕ) → before < i → i < after → missing_at draft i ≡ true
  pub known_before : missing_at draft before ≡ false
  pub known_after : missing_at draft after ≡ false
  pub phases : phase_of (flags_at draft before) ≡ phase_of (flags_at draft after)
  pub speeds : (i : ℕ) → before ≤ i → i ≤ after → speed_at draft i ≡ speed_at draft before

-- ---- a second of the mended draft: "comes out unaltered", all four bytes of it
pub record Unaltered (draft : List ℕ) (k : ℕ) : Type 0 where
  pub speed : speed_at (mended draft) k ≡ speed_at draft k
  pub flags : flags_at (mended draft) k ≡ flags_at draft k
  pub fourth : zero_at (mended draft) k ≡ zero_at draft k

-- or "takes that phase", and is the same but for that
pub record Filled (draft : List ℕ) (k : ℕ) (b : Bounded draft k) : Type 0 where
  pub speed : speed_at (mended draft) k ≡ speed_at draft k
  pub known : missing_at (mended draft) k ≡ false
  pub phase : phase_of (flags_at (mended draft) k) ≡ phase_of (flags_at draft b.before)
  pub first_mark : no_shift (flags_at (mended draft) k) ≡ no_shift (flags_at draft k)
  pub second_mark : no_first (flags_at (mended draft) k) ≡ no_first (flags_at draft k)
  pub fourth : zero_at (mended draft) k ≡ zero_at draft k

-- ---- the whole answer of mending, second k counted from 0 and listed as k + 1
pub record Mending (draft : List ℕ) : Type 0 where
  pub version : version_of (mended draft) ≡ 3
  pub count : count_of (mended draft) ≡ count_of draft
  pub long : length (mended draft) ≡ length draft
  pub unaltered : (k : ℕ) → k < count_of draft → (On (list_of draft true) (k + 1) → ⊥) → Unaltered draft k
  pub bounded : (k : ℕ) → On (list_of draft true) (k + 1) → Bounded draft k
  pub filled : (k : ℕ) (b : Bounded draft k) → Filled draft k b
  pub changed : (k : ℕ) → Bounded draft k → On (list_of draft true) (k + 1)
  pub rising : (which : Bool) → Rising (list_of draft which)
  pub apart : (second : ℕ) → On (list_of draft true) second → On (list_of draft false) second → ⊥
  pub missing : (which : Bool) (k : ℕ) → On (list_of draft which) (k + 1) → (k < count_of draft) × (missing_at draft k ≡ true)
  pub left_open : (k : ℕ) → k < count_of draft → missing_at draft k ≡ true → (On (list_of draft true) (k + 1) → ⊥) → On (list_of draft false) (k + 1)

-- ---- "running it on its own result changes nothing"
pub record Again (draft : List ℕ) : Type 0 where
  pub read : judge_draft false (mended draft) ≡ Ok tt
  pub same : mended (mended draft) ≡ mended draft
  pub changed : list_of (mended draft) true ≡ []
  pub left_open : list_of (mended draft) false ≡ list_of draft false

-- ---- "A draft with nothing open can be turned into version 1, the same seconds and marks": a trace that the core's judge takes
pub record Turning (draft : List ℕ) : Type 0 where
  pub taken : judge_trace (turned draft) ≡ Ok tt
  pub version : version_of (turned draft) ≡ 1
  pub count : count_of (turned draft) ≡ count_of draft
  pub speeds : (k : ℕ) → k < count_of draft → speed_at (turned draft) k ≡ speed_at draft k
  pub flags : (k : ℕ) → k < count_of draft → flags_at (turned draft) k ≡ flags_at draft k
