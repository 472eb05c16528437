-- 01, Gear of each second, before corrections: the rule of a stop. Seconds count from 0 here.
use Rattle.std.specs.Prelude.{ℕ, ◌-◌, ◌<◌, ◌≡◌, cond, List, ltb}
use Rattle.walk.specs.Walk.{scan, pairs}
use Rattle.house.specs.House.{flags_at, stop, stop_at}

-- the end of the run of stop seconds that reaches second k, of n seconds; second k itself where it is no stop
abbrev pub stop_end : List ℕ → ℕ → ℕ → ℕ
stop_end trace n k = scan (stop_at trace) (λ i. i) (λ i. i) k (n - k)

-- "the last five seconds of a run of stop seconds are gear 1, earlier ones gear 0; a run under six is all gear 1": by how many are left of the run
abbrev pub stop_gear : ℕ → ℕ
stop_gear left = cond (ltb 5 left) 0 1

-- outside stop a second has its own gear
abbrev pub gear_by : ℕ → ℕ → ℕ → ℕ
gear_by flags own left = cond (stop flags) (stop_gear left) own

unfoldable pub first_gear : (ℕ → ℕ) → List ℕ → ℕ → ℕ → ℕ
first_gear own trace n k = gear_by (flags_at trace k) (own k) (stop_end trace n k - k)

-- the row before corrections; its clutch comes last
unfoldable pub first_row : (ℕ → ℕ) → List ℕ → ℕ → List ℕ
first_row own trace n = pairs (first_gear own trace n) (λ k. 0) n

-- what is carried from second to second: the end of a stop run, once it is known
pub record Carried (trace : List ℕ) (n k end : ℕ) : Type 0 where
  pub known : k < end → stop_end trace n k ≡ end
