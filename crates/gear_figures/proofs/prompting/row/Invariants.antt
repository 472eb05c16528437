-- The place stays in the rows.
use Rattle.std.proofs.Common.{◌≤◌}
use Rattle.gear_figures.proofs.prompting.row.Given as goal

abbrev pub invariant-loop-k : goal.invariant-loop-k
invariant-loop-k g l = l.at ≤ 3610
