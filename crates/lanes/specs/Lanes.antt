-- Rows beside each other, sixteen lanes in a line: what lane j has in line k stands at 16 k + j. Lanes, lines and seconds count from 0 here.
use Rattle.std.specs.Prelude.{ℕ, ◌+◌, ◌*◌, ◌<◌, ◌≡◌, List, get_or, set}
use Rattle.walk.specs.Walk.{in_turn}
use Rattle.row.specs.Row.{gear_at}

abbrev pub lane_at : List ℕ → ℕ → ℕ → ℕ
lane_at m j k = get_or m (16 * k + j) 0

-- the first lanes of line k, one after the other, each with what f says of it
unfoldable pub line_by : (List ℕ → ℕ → ℕ) → ℕ → List ℕ → ℕ → List ℕ
line_by f k m lanes = in_turn (λ m j. set m (16 * k + j) (f m j)) m lanes

-- lane j has the gears of a row, in n seconds
abbrev pub Holds : List ℕ → List ℕ → ℕ → ℕ → Type 0
Holds m row n j = (k : ℕ) → k < n → lane_at m j k ≡ gear_at row k
