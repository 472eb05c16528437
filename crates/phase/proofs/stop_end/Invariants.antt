-- What the loop of `stop_end` keeps: the run ends where it ends from second i on.
use Rattle.std.proofs.Common.{◌≡◌, ◌≤◌}
use Rattle.phase.specs.Phase.{stop_end}
use Rattle.phase.proofs.stop_end.Given as goal

abbrev pub invariant-loop-i : goal.invariant-loop-i
invariant-loop-i l = record {
  begun : l.k ≤ l.i;
  same : stop_end l.trace.bytes.now l.trace.seconds l.k ≡ stop_end l.trace.bytes.now l.trace.seconds l.i;
}
