-- What the loop of `reached` keeps: the count is that of the first i upshifts.
use Rattle.std.proofs.Common.{◌≡◌, ◌≤◌}
use Rattle.lane_own.specs.Own.{reached_lane}
use Rattle.lane_own.proofs.reached.Given as goal

abbrev pub invariant-loop-i : goal.invariant-loop-i
invariant-loop-i l = record {
  counted : l.count ≡ reached_lane l.tables l.speed l.j l.i;
  few : l.count ≤ l.i;
}
