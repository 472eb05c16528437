-- What the loop of `put_table` keeps: i lines are put. The measure is how many are left.
use Rattle.std.proofs.Common.{◌≡◌, length}
use Rattle.plan.specs.Lanes.{with_table}
use Rattle.plan.proofs.put_table.Given as goal

abbrev pub invariant-loop-i : goal.invariant-loop-i
invariant-loop-i l = (length l.tables ≡ length l.initial.tables) × (l.tables ≡ with_table l.v.sheet l.t l.j l.initial.tables l.i)
