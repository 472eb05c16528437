-- What the tool carries from second to second, and what its parts write: not what a reader of 02 must believe, but what its functions are held to.
use Rattle.std.specs.Prelude.{◌≡◌, Bool, false, cond, not, ◌&&◌, List, ◌++◌, ℕ, zero, suc, ◌+◌, ◌*◌, ◌≤◌, ltb, length, take, drop}
use Rattle.house.specs.House.{count_of, Lasts, speed_at}
use Rattle.house.specs.Written.{seconds_to}
use Rattle.draft.specs.declared.Gap.{Gap}
use Rattle.draft.specs.Draft.{gap_to, changed_at, mended_flags, list_of}

-- a draft with n seconds, as far as the parts need it
pub record Drafted (draft : List ℕ) (n : ℕ) : Type 0 where
  pub is : n ≡ count_of draft
  pub few : n ≤ 2000
  pub lasts : Lasts draft n

-- the gap of second k, and that of the second before it
abbrev pub gap_of : List ℕ → ℕ → Gap
gap_of draft k = record { to = gap_to draft k; taken = changed_at draft k }

abbrev pub gap_before : List ℕ → ℕ → Gap
gap_before draft zero = record { to = 0; taken = false }
gap_before draft (suc k) = gap_of draft k

-- a second is listed, by its gap
abbrev pub listed_by : Gap → ℕ → Bool → Bool
listed_by gap k changed = cond changed gap.taken (ltb k gap.to && not gap.taken)

-- a list with the seconds at its front
abbrev pub list_front : List ℕ → Bool → List ℕ → List ℕ
list_front draft changed list = list_of draft changed ++ drop (length (list_of draft changed)) list

-- a buffer with n seconds of the mended draft behind its first 8 bytes
abbrev pub with_seconds : List ℕ → ℕ → List ℕ → List ℕ
with_seconds draft n buffer = (take 8 buffer ++ seconds_to (speed_at draft) (mended_flags draft) n) ++ drop (4 * n + 8) buffer
