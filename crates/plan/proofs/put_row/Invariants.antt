-- What the loop of `put_row` keeps: k seconds are written, and the rest is as it was.
use Rattle.std.proofs.Common.{◌≡◌, ◌*◌, ◌++◌, drop, length}
use Rattle.plan.specs.Lanes.{lane_row}
use Rattle.plan.proofs.put_row.Given as goal

abbrev pub invariant-loop-k : goal.invariant-loop-k
invariant-loop-k l = (length l.row ≡ length l.initial.row) × (l.row ≡ lane_row l.lanes l.j l.k ++ drop (2 * l.k) l.initial.row)
