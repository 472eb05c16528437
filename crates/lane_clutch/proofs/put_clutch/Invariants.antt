-- What the loop of `put_clutch` keeps: the first j lanes are put.
use Rattle.std.proofs.Common.{eqb}
use Rattle.lanes.specs.Lanes.{lane_at}
use Rattle.lanes.proofs.Lanes.{Line}
use Rattle.lane_clutch.specs.Clutch.{drives_lane, clutched}
use Rattle.lane_clutch.proofs.put_clutch.Given as goal

abbrev pub invariant-loop-j : goal.invariant-loop-j
invariant-loop-j l =
    Line (λ m j. clutched (eqb (drives_lane l.tables l.speed (lane_at m j l.k) j 8) 0) (lane_at m j l.k)) l.k l.initial.lanes l.lanes l.j
