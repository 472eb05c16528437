-- What the loop of `put_cap` keeps: the first j lanes are put.
use Rattle.row.specs.Corrections.{cap_after}
use Rattle.lanes.specs.Lanes.{lane_at}
use Rattle.lanes.proofs.Lanes.{Line}
use Rattle.lanes.proofs.put_cap.Given as goal

abbrev pub invariant-loop-j : goal.invariant-loop-j
invariant-loop-j l = Line (λ m j. cap_after l.flags (lane_at m j 0) (lane_at l.own j 0)) 0 l.initial.kept l.kept l.j
