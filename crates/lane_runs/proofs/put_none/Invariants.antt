-- What the loop of `put_none` keeps: the first j lanes are put.
use Rattle.lanes.proofs.Lanes.{Line}
use Rattle.lane_runs.proofs.put_none.Given as goal

abbrev pub invariant-loop-j : goal.invariant-loop-j
invariant-loop-j l = Line (λ m j. 0) 1 l.initial.runs l.runs l.j
