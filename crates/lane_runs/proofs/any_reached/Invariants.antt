-- What the loop of `any_reached` keeps: where none was found, the first j lanes reach nothing.
use Rattle.std.proofs.Common.{◌≡◌, ℕ, ◌<◌, false}
use Rattle.lanes.specs.Lanes.{lane_at}
use Rattle.lane_runs.proofs.any_reached.Given as goal

abbrev pub invariant-loop-j : goal.invariant-loop-j
invariant-loop-j l = l.any ≡ false → (i : ℕ) → i < l.j → lane_at l.runs i 2 ≡ 0
