-- What the loop of `put_left` keeps: the first j lanes are put.
use Rattle.lanes.specs.Lanes.{lane_at}
use Rattle.lanes.proofs.Lanes.{Line}
use Rattle.lane_runs.specs.Runs.{left_after}
use Rattle.lane_runs.proofs.put_left.Given as goal

abbrev pub invariant-loop-j : goal.invariant-loop-j
invariant-loop-j l = Line (λ m j. left_after l.marked (lane_at m j 0) (lane_at m j 1) (lane_at l.lanes j l.p) (lane_at l.lanes j l.k)) 1 l.initial.runs l.runs l.j
