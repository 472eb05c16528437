-- 01, Gear of each second, before corrections: the gears that the shift speeds give, and refusal 9. Seconds count from 0 here.
use Rattle.std.specs.Prelude.{not, false, cond, List, ℕ, ◌+◌, ◌≤◌, ◌<◌, set, Ok, Err}
use Rattle.refusal.specs.Judging.{Judged, if_accepted}
use Rattle.refusal.specs.declared.Refusal.TheVariants.{TooClose}
use Rattle.walk.specs.Walk.{in_turn, scan}
use Rattle.house.specs.House.{Lasts, speed_at, flags_at, stop, acceleration}
use Rattle.shift.specs.declared.Shift.{Shift}
use Rattle.shift.specs.Speeds.{own_gear, ShiftRanges, Own}

-- a second by its phase and its speed; a stop second is compared with nothing
unfoldable pub own_second : Shift → ℕ → ℕ → Own
own_second s flags speed = cond (stop flags) (record { gear = 0; close = false }) (own_gear s (acceleration flags) speed)

abbrev pub own_at : Shift → List ℕ → ℕ → Own
own_at s trace k = own_second s (flags_at trace k) (speed_at trace k)

-- 9: "Too close in any comparison .. refuses the trace", the first such of the n seconds from k on
abbrev pub judge_own : (ℕ → Own) → ℕ → ℕ → Judged
judge_own own = scan (λ k. not (own k).close) (λ k. Err (TooClose (k + 1))) (λ k. Ok tt)

abbrev pub judge_close : Shift → List ℕ → ℕ → ℕ → Judged
judge_close s trace = judge_own (own_at s trace)

-- the own gears of n seconds, put into a list
abbrev pub put_gears : (ℕ → Own) → List ℕ → ℕ → List ℕ
put_gears own = in_turn (λ gears k. set gears k (own k).gear)

abbrev pub put_own : Shift → List ℕ → List ℕ → ℕ → List ℕ
put_own s trace = put_gears (own_at s trace)

-- the list after the comparisons: the own gears at its front, or as it was
unfoldable pub gears_after : Shift → List ℕ → List ℕ → ℕ → List ℕ
gears_after s trace own n = if_accepted (judge_close s trace 0 n) (put_own s trace own n) own

-- what an accepted trace and sheet give
pub record Ready (s : Shift) (trace : List ℕ) (n : ℕ) : Type 0 where
  pub ranges : ShiftRanges s
  pub lasts : Lasts trace n
  pub few : n ≤ 2000
  pub speeds : (k : ℕ) → k < n → speed_at trace k ≤ 2000
