-- A sheet that is judged so tells what its vehicle keeps.
use Rattle.std.proofs.Common.{sym}
use Rattle.vehicle.proofs.Sound.{accepted-sound}
use Rattle.vehicle.proofs.read.Goals as goal

pub invariant_of-result : goal.invariant_of-result
invariant_of-result c = record { sound = accepted-sound c.args.v (sym c.in_ok-judge.ensures) }
