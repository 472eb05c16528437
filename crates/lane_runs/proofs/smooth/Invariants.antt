-- What the loop of `smooth` keeps: k seconds are judged.
use Rattle.lane_runs.proofs.Smoothing.{Reached}
use Rattle.lane_runs.proofs.smooth.Given as goal

abbrev pub invariant-loop-k : goal.invariant-loop-k
invariant-loop-k l = Reached l.trace.bytes.now l.initial.lanes l.trace.seconds l.lanes l.runs l.former l.k
