-- What the loop of `set_clutch` keeps: k seconds have their clutch.
use Rattle.lane_clutch.specs.Clutch.{Tops}
use Rattle.lane_clutch.proofs.Clutch.{Put}
use Rattle.lane_clutch.proofs.set_clutch.Given as goal

abbrev pub invariant-loop-k : goal.invariant-loop-k
invariant-loop-k l = record {
  tops : Tops l.tables 272 l.top;
  put : Put l.trace.bytes.now l.tables l.initial.lanes l.trace.seconds l.lanes l.k;
}
