-- What the loop of `put_own` keeps: the first j lanes are put.
use Rattle.phase.specs.Phase.{gear_by}
use Rattle.lanes.proofs.Lanes.{Line}
use Rattle.lane_own.specs.Own.{own_lane}
use Rattle.lane_own.proofs.put_own.Given as goal

abbrev pub invariant-loop-j : goal.invariant-loop-j
invariant-loop-j l = Line (λ m j. gear_by l.flags (own_lane l.tables l.accelerating l.speed j) l.left) l.k l.initial.lanes l.lanes l.j
