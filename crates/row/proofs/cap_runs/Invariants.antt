-- What the loop of `cap_runs` keeps: the row and the cap are those after k steps.
use Rattle.std.proofs.Common.{◌≡◌, length}
use Rattle.walk.specs.Walk.{in_turn}
use Rattle.row.specs.Corrections.{uncapped, cap_step}
use Rattle.row.proofs.cap_runs.Given as goal

abbrev pub invariant-loop-k : goal.invariant-loop-k
invariant-loop-k l = record {
  as_long : length l.row ≡ length l.initial.row;
  state : (l.row, l.cap) ≡ in_turn (cap_step l.trace.bytes.now) (l.initial.row, uncapped) l.k;
}
