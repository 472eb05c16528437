-- The shift speeds of an accepted sheet have what is asked.
use Rattle.shift.proofs.Sides.{vehicle-worked}
use Rattle.shift.proofs.shift_of.Goals as goal

pub invariant_of-result : goal.invariant_of-result
invariant_of-result c = record { worked = rw c.of_sheet.ensures (vehicle-worked c.args.v.sound) }
