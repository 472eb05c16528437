-- What the loop of `put_capped` keeps: the first j lanes are put.
use Rattle.row.specs.Corrections.{capped}
use Rattle.lanes.specs.Lanes.{lane_at}
use Rattle.lanes.proofs.Lanes.{Line}
use Rattle.lanes.proofs.put_capped.Given as goal

abbrev pub invariant-loop-j : goal.invariant-loop-j
invariant-loop-j l = Line (λ m j. capped l.flags (lane_at m j 0) (lane_at l.own j 0)) 3 l.initial.kept l.kept l.j
