-- What the loop of `put_out` keeps: the first j lanes are put.
use Rattle.std.proofs.Common.{true}
use Rattle.lanes.specs.Lanes.{lane_at}
use Rattle.lanes.proofs.Lanes.{Line}
use Rattle.lane_clutch.specs.Clutch.{clutched}
use Rattle.lane_clutch.proofs.put_out.Given as goal

abbrev pub invariant-loop-j : goal.invariant-loop-j
invariant-loop-j l = Line (λ m j. clutched true (lane_at m j l.k)) l.k l.initial.lanes l.lanes l.j
