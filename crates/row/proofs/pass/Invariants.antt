-- What the loop of `pass` keeps: the row is the one after k steps.
use Rattle.std.proofs.Common.{◌≡◌, length}
use Rattle.row.specs.Corrections.{pass_by}
use Rattle.row.proofs.pass.Given as goal

abbrev pub invariant-loop-k : goal.invariant-loop-k
invariant-loop-k l = record {
  as_long : length l.row ≡ length l.initial.row;
  stepped : l.row ≡ pass_by l.rule l.trace.bytes.now l.initial.row l.k;
}
