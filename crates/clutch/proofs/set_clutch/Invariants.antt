-- What the loop of `set_clutch` keeps: the row is that after k steps.
use Rattle.std.proofs.Common.{◌≡◌, length}
use Rattle.walk.specs.Walk.{in_turn}
use Rattle.clutch.specs.Clutch.{clutch_by, clutch_step}
use Rattle.clutch.proofs.set_clutch.Given as goal

abbrev pub invariant-loop-k : goal.invariant-loop-k
invariant-loop-k l = record {
  as_long : length l.row ≡ length l.initial.row;
  stepped : l.row ≡ in_turn (clutch_step (clutch_by l.v l.trace.bytes.now)) l.initial.row l.k;
}
