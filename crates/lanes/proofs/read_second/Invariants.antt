-- What the loop of `read_second` keeps: the first j lanes are put.
use Rattle.lanes.specs.Lanes.{lane_at}
use Rattle.lanes.proofs.Lanes.{Line}
use Rattle.lanes.proofs.read_second.Given as goal

abbrev pub invariant-loop-j : goal.invariant-loop-j
invariant-loop-j l = Line (λ m j. lane_at l.lanes j l.k) 0 l.initial.own l.own l.j
