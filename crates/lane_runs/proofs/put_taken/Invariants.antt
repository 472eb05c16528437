-- What the loop of `put_taken` keeps: the first j lanes are put.
use Rattle.std.proofs.Common.{cond}
use lib.Dec.{leb}
use Rattle.lanes.specs.Lanes.{lane_at}
use Rattle.lanes.proofs.Lanes.{Line}
use Rattle.lane_runs.proofs.put_taken.Given as goal

abbrev pub invariant-loop-j : goal.invariant-loop-j
invariant-loop-j l = Line (λ m j. cond (leb l.d (lane_at l.runs j 2)) (lane_at m j l.k) (lane_at m j l.i)) l.i l.initial.lanes l.lanes l.j
