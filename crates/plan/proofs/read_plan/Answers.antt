-- `read_plan`: an accepted trace has a head, and some seconds.
use Rattle.std.proofs.Common.{arith}
use Rattle.trace.proofs.Sound.{accepted-sound}
use Rattle.plan.proofs.read_plan.Goals as goal

pub judge_room-requires : goal.judge_room-requires
judge_room-requires c =
    let sound = accepted-sound _ c.in_ok-trace.ensures.0 in
    let n = c.in_ok-trace.ensures.2 in
    omega (arith, n, sound.some)
