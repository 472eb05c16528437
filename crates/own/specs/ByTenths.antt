-- 02, M-106: the same by the vehicle's shift speeds in whole tenths, which is how the code goes about it. Seconds count from 0 here.
use Rattle.std.specs.Prelude.{false, cond, List, ℕ, Ok}
use Rattle.refusal.specs.Judging.{Judged}
use Rattle.house.specs.House.{speed_at, flags_at, stop, acceleration}
use Rattle.shift.specs.Speeds.{Own}
use Rattle.tenths.specs.declared.Tenths.{Tenths}
use Rattle.tenths.specs.Choice.{own_by_tenths, marked}
use Rattle.own.specs.Own.{judge_own}

unfoldable pub second_by_tenths : Tenths → ℕ → ℕ → Own
second_by_tenths t flags speed = cond (stop flags) (record { gear = 0; close = false }) (own_by_tenths t (acceleration flags) speed)

abbrev pub second_at : Tenths → List ℕ → ℕ → Own
second_at t trace k = second_by_tenths t (flags_at trace k) (speed_at trace k)

-- where nothing is marked, no second is too close
unfoldable pub judge_marked : Tenths → List ℕ → ℕ → Judged
judge_marked t trace n = cond (marked t) (judge_own (second_at t trace) 0 n) (Ok tt)
