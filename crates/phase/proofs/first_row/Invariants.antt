-- What the loop of `first_row` keeps: k seconds are written, the rest is as it was, and the end of a stop run that is known is right.
use Rattle.std.proofs.Common.{◌≡◌, ◌++◌, ◌*◌, length, get_or, drop}
use Rattle.walk.specs.Walk.{pairs}
use Rattle.phase.specs.Phase.{first_gear, Carried}
use Rattle.phase.proofs.first_row.Given as goal

abbrev pub invariant-loop-k : goal.invariant-loop-k
invariant-loop-k l = record {
  as_long : length l.row ≡ length l.initial.row;
  written : l.row ≡ pairs (first_gear (λ k. get_or l.own k 0) l.trace.bytes.now l.trace.seconds) (λ i. 0) l.k ++ drop (2 * l.k) l.initial.row;
  carried : Carried l.trace.bytes.now l.trace.seconds l.k l.end;
}
