-- What the loop of `put_rule` keeps: the first j lanes are put.
use Rattle.row.specs.Corrections.{ruled}
use Rattle.lanes.specs.Lanes.{lane_at}
use Rattle.lanes.proofs.Lanes.{Line}
use Rattle.lanes.proofs.put_rule.Given as goal

abbrev pub invariant-loop-j : goal.invariant-loop-j
invariant-loop-j g l = Line (λ m j. ruled l.rule l.first l.former l.flags (lane_at m j g.row.TO) (lane_at m j g.row.FROM)) g.row.TO l.initial.kept l.kept l.j
