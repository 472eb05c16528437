-- What the loop of `wide` keeps: the numbers below i are stored, and the rest is as it was.
use Rattle.std.proofs.Common.{◌≡◌, ◌++◌, length, drop, get_or}
use Rattle.walk.specs.Walk.{listed}
use Rattle.speeds_crossing.proofs.wide.Given as goal

abbrev pub invariant-loop-i : goal.invariant-loop-i
invariant-loop-i l = record {
  long : length l.wide ≡ 7;
  stored : l.wide ≡ listed (λ i. get_or l.least i 0) l.i ++ drop l.i l.initial.wide;
}
