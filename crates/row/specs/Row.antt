-- The row of a trace (01, Trace): "2 bytes a second, gear (0 neutral) and clutch (0 in, 1 out)". Seconds count from 0 here.
use Rattle.std.specs.Prelude.{ℕ, ◌+◌, ◌*◌, ◌≤◌, List, get_or, set, length}
use Rattle.house.specs.House.{Lasts}

-- the gear of second k
abbrev pub gear_at : List ℕ → ℕ → ℕ
gear_at row k = get_or row (2 * k) 0

-- the clutch of second k
abbrev pub clutch_at : List ℕ → ℕ → ℕ
clutch_at row k = get_or row (2 * k + 1) 0

-- the row with another gear at second k
abbrev pub set_gear : List ℕ → ℕ → ℕ → List ℕ
set_gear row k gear = set row (2 * k) gear

-- the trace and the row have n seconds at least
pub record HaveSeconds (trace row : List ℕ) (n : ℕ) : Type 0 where
  pub in_trace : Lasts trace n
  pub in_row : 2 * n ≤ length row
