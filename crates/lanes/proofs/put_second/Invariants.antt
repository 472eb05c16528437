-- What the loop of `put_second` keeps: the first j lanes are put.
use Rattle.lanes.specs.Lanes.{lane_at}
use Rattle.lanes.proofs.Lanes.{Line}
use Rattle.lanes.proofs.put_second.Given as goal

abbrev pub invariant-loop-j : goal.invariant-loop-j
invariant-loop-j l = Line (λ m j. lane_at l.kept j 4) l.k l.initial.lanes l.lanes l.j
