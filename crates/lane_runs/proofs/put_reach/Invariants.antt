-- What the loop of `put_reach` keeps: the first j lanes are put.
use Rattle.lanes.specs.Lanes.{lane_at}
use Rattle.lanes.proofs.Lanes.{Line}
use Rattle.lane_runs.specs.Runs.{reach_by}
use Rattle.lane_runs.proofs.put_reach.Given as goal

abbrev pub invariant-loop-j : goal.invariant-loop-j
invariant-loop-j l = Line (λ m j. reach_by (lane_at m j 0) (lane_at m j 1) (lane_at l.lanes j l.k)) 2 l.initial.runs l.runs l.j
