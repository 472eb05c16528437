-- `judge_runs`: the lines of the four calls.
use Rattle.std.proofs.Common.{arith}
use Rattle.lane_runs.proofs.Steps.{judged-by}
use Rattle.lane_runs.proofs.judge_runs.Goals as goal

pub returns : goal.returns
returns c =
    let a = c.args in
    judged-by a.marked a.p a.k a.lanes.now a.runs.now (omega arith) c.put_reach.ensures c.put_left.ensures c.put_count.ensures c.take_reached.ensures
