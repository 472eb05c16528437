-- What the loop of `has_no_first` keeps: what is found from second `from` on is what is found from second k on.
use Rattle.std.proofs.Common.{◌-◌, ◌≡◌, ◌≤◌}
use Rattle.runs.specs.Runs.{has_no_first}
use Rattle.runs.proofs.has_no_first.Given as goal

abbrev pub invariant-loop-k : goal.invariant-loop-k
invariant-loop-k l = record {
  begun : l.from ≤ l.k;
  same : has_no_first l.trace.bytes.now l.from (l.to - l.from) ≡ has_no_first l.trace.bytes.now l.k (l.to - l.k);
}
