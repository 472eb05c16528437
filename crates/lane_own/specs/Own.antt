-- The gears of all lanes before corrections, from tables. Lanes, lines and seconds count from 0 here.
use Rattle.std.specs.Prelude.{ℕ, ◌+◌, ◌-◌, ◌<◌, ◌≡◌, Bool, true, false, cond, List, leb, ltb, length, get_or}
use Rattle.house.specs.House.{flags_at, speed_at, acceleration}
use Rattle.shift.specs.Speeds.{count}
use Rattle.tenths.specs.declared.Tenths.{Tenths}
use Rattle.tenths.specs.Choice.{own_by_tenths}
use Rattle.phase.specs.Phase.{first_row}
use Rattle.lanes.specs.Lanes.{lane_at, Holds}

-- how many of the first n upshifts of lane j a speed has reached
abbrev pub reached_lane : List ℕ → ℕ → ℕ → ℕ → ℕ
reached_lane tables speed j n = count (λ i. leb (lane_at tables j i) speed) n

-- the gear that lane j has outside stop
unfoldable pub own_lane : List ℕ → Bool → ℕ → ℕ → ℕ
own_lane tables true speed j = reached_lane tables speed j 7 + 1
own_lane tables false speed j = cond (ltb speed (lane_at tables j 8)) 1 (reached_lane tables speed j 7 - cond (leb (lane_at tables j 7) speed) 1 0 + 2)

-- lane j of the tables has the tenths of a vehicle
pub record TableOf (t : Tenths) (tables : List ℕ) (j : ℕ) : Type 0 where
  pub above : (i : ℕ) → i < 7 → lane_at tables j i ≡ get_or t.above i 0
  pub last : lane_at tables j 7 ≡ t.last.above
  pub first : lane_at tables j 8 ≡ t.first

-- the row before corrections, by a vehicle's tenths
abbrev pub first_by_tenths : Tenths → List ℕ → ℕ → List ℕ
first_by_tenths t trace n = first_row (λ k. (own_by_tenths t (acceleration (flags_at trace k)) (speed_at trace k)).gear) trace n

pub record FirstRows (trace tables before after : List ℕ) (n : ℕ) : Type 0 where
  pub long : length after ≡ length before
  pub lane : (j : ℕ) → j < 16 → (t : Tenths) → TableOf t tables j → Holds after (first_by_tenths t trace n) n j
