-- An accepted sheet has three gears or more.
use Rattle.std.proofs.Common.{arith}
use Rattle.shift.specs.Speeds.{shift_of}
use Rattle.tenths.specs.Least.{tenths_of}
use Rattle.speeds_crossing.proofs.tenths_out.Goals as goal

pub overflow_sub-result : goal.overflow_sub-result
unfolding tenths_of shift_of
overflow_sub-result c = rw c.of_vehicle-tenths.ensures (omega (arith, c.in-Ok.vehicle.sound.ranged.gears.0))
