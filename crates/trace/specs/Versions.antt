-- A trace of version 1 and the trace of the same seconds in version 2 (02, M-109): they differ in the version's low byte.
use Rattle.std.specs.Prelude.{◌≡◌, false, List, ℕ, ◌<◌, set}
use Rattle.house.specs.House.{version_of, count_of, flags_at, marked}

abbrev pub in_version2 : List ℕ → List ℕ
in_version2 trace = set trace 4 2

-- a version 1 trace without marks
pub record Plain (trace : List ℕ) : Type 0 where
  pub first : version_of trace ≡ 1
  pub unmarked : (k : ℕ) → k < count_of trace → marked (flags_at trace k) ≡ false
