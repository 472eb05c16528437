-- What the loop of `run_end` keeps: the end found from second `from` on is the one found from second k on.
use Rattle.std.proofs.Common.{◌-◌, ◌≡◌, ◌≤◌}
use Rattle.runs.specs.Runs.{run_end}
use Rattle.runs.proofs.run_end.Given as goal

abbrev pub invariant-loop-k : goal.invariant-loop-k
invariant-loop-k l = record {
  begun : l.from ≤ l.k;
  same : run_end l.trace.bytes.now l.row l.gear l.from (l.trace.seconds - l.from) ≡ run_end l.trace.bytes.now l.row l.gear l.k (l.trace.seconds - l.k);
}
