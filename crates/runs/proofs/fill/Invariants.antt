-- What the loop of `fill` keeps: k stores are done.
use Rattle.std.proofs.Common.{◌≡◌, length}
use Rattle.runs.specs.Runs.{filled}
use Rattle.runs.proofs.fill.Given as goal

abbrev pub invariant-loop-k : goal.invariant-loop-k
invariant-loop-k l = record {
  as_long : length l.row ≡ length l.initial.row;
  stored : l.row ≡ filled l.initial.row l.start l.gear l.k;
}
