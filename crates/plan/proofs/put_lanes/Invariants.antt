-- What the loop of `put_lanes` keeps: the rows of j lanes are put, and the next one's place is known. The measure is how many are left.
use Rattle.std.proofs.Common.{◌≡◌, ◌+◌, ◌*◌, ◌≤◌, length}
use Rattle.plan.specs.Lanes.{parts_to}
use Rattle.plan.proofs.put_lanes.Given as goal

abbrev pub invariant-loop-j : goal.invariant-loop-j
invariant-loop-j l =
    (l.j ≤ l.few) × (l.place ≡ l.at + 2 * l.n * l.j) × (length l.rows ≡ length l.initial.rows) × (l.rows ≡ parts_to l.tables l.lanes l.n l.at l.initial.rows l.j)
