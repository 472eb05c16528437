-- `correct_second`: the lines of the three calls.
use Rattle.std.proofs.Common.{arith}
use Rattle.lanes.proofs.Steps.{stepped_by}
use Rattle.lanes.proofs.correct_second.Goals as goal

pub returns : goal.returns
returns c =
    let a = c.args in
    stepped_by a.first a.former a.flags a.k a.lanes.now a.kept.now c.requires (omega arith) c.cap_second.ensures c.rule_second.ensures c.put_second.ensures
