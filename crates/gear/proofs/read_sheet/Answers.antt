-- An accepted trace has its seconds.
use Rattle.std.proofs.Common.{arith}
use Rattle.trace.proofs.Sound.{accepted-sound}
use Rattle.gear.proofs.read_sheet.Goals as goal

pub judge_marks-requires : goal.judge_marks-requires
judge_marks-requires c =
    let sound = accepted-sound _ c.in_ok-trace.ensures.0 in
    let n = c.in_ok-trace.ensures.2 in
    omega (arith, n, sound.few)
