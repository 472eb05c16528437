-- What the loop of `correct` keeps: k seconds are corrected.
use Rattle.lanes.proofs.Corrections.{Reached}
use Rattle.lanes.proofs.correct.Given as goal

abbrev pub invariant-loop-k : goal.invariant-loop-k
invariant-loop-k l = Reached l.trace.bytes.now l.initial.lanes l.trace.seconds l.lanes l.kept l.k
