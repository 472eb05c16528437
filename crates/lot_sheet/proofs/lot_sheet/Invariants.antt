-- The records from i on have been read.
use Rattle.std.proofs.Common.{◌≡◌}
use Rattle.lot_sheet.proofs.Turns.{kept}
use Rattle.lot_sheet.proofs.lot_sheet.Given as goal

abbrev pub invariant-loop-i : goal.invariant-loop-i
invariant-loop-i l = l.running ≡ kept l.records l.i
