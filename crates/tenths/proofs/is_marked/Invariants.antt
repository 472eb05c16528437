-- The marks are those of the first i.
use Rattle.std.proofs.Common.{◌≡◌, ◌≤◌}
use Rattle.shift.specs.Speeds.{count}
use Rattle.tenths.specs.Choice.{mark_at}
use Rattle.tenths.proofs.is_marked.Given as goal

abbrev pub invariant-loop-i : goal.invariant-loop-i
invariant-loop-i l = (l.marks ≡ count (mark_at l.above l.not_below) l.i) × (l.marks ≤ l.i)
