-- What the loop of `first_rows` keeps: k seconds are put, and the end of a stop run that is known is right.
use Rattle.phase.specs.Phase.{Carried}
use Rattle.lane_own.proofs.Own.{Put}
use Rattle.lane_own.proofs.first_rows.Given as goal

abbrev pub invariant-loop-k : goal.invariant-loop-k
invariant-loop-k l = record {
  put : Put l.trace.bytes.now l.tables l.initial.lanes l.trace.seconds l.lanes l.k;
  carried : Carried l.trace.bytes.now l.trace.seconds l.k l.end;
}
