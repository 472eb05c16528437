-- What the loop of `put_count` keeps: the first j lanes are put.
use Rattle.lanes.specs.Lanes.{lane_at}
use Rattle.lanes.proofs.Lanes.{Line}
use Rattle.lane_runs.specs.Runs.{count_after}
use Rattle.lane_runs.proofs.put_count.Given as goal

abbrev pub invariant-loop-j : goal.invariant-loop-j
invariant-loop-j l = Line (λ m j. count_after (lane_at m j 0) (lane_at l.lanes j l.p) (lane_at l.lanes j l.k)) 0 l.initial.runs l.runs l.j
