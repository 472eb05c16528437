-- What the loop of `smooth` keeps: the turns left make the finished row. The measure is what is left of n.
use Rattle.std.proofs.Common.{◌-◌, ◌≡◌, ◌≤◌, length}
use Rattle.runs.specs.Runs.{smoothed}
use Rattle.runs.proofs.Runs.{Left}
use Rattle.runs.proofs.smooth.Given as goal

abbrev pub invariant-loop-start : goal.invariant-loop-start
invariant-loop-start l = record {
  so_far : l.start ≤ l.trace.seconds;
  as_long : length l.row ≡ length l.initial.row;
  left : Left l.trace.bytes.now l.trace.seconds (smoothed l.trace.bytes.now l.initial.row l.trace.seconds) l.row l.start;
}

abbrev pub decreases-loop-start : goal.decreases-loop-start
decreases-loop-start l = l.trace.seconds - l.start
