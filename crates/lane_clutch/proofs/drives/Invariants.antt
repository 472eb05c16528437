-- What the loop of `drives` keeps: the count is that of the first i gears.
use Rattle.std.proofs.Common.{◌≡◌, ◌≤◌}
use Rattle.lane_clutch.specs.Clutch.{drives_lane}
use Rattle.lane_clutch.proofs.drives.Given as goal

abbrev pub invariant-loop-i : goal.invariant-loop-i
invariant-loop-i l = record {
  counted : l.count ≡ drives_lane l.tables l.speed l.gear l.j l.i;
  few : l.count ≤ l.i;
}
