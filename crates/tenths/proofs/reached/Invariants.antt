-- The count is that of the first i.
use Rattle.std.proofs.Common.{◌≡◌, ◌≤◌}
use Rattle.tenths.specs.Choice.{reached}
use Rattle.tenths.proofs.reached.Given as goal

abbrev pub invariant-loop-i : goal.invariant-loop-i
invariant-loop-i l = (l.count ≡ reached l.least l.speed l.i) × (l.count ≤ l.i)
