-- `cap_second`: the lines of the three calls.
use native.Mathlib.Omega.{arith}
use Rattle.lanes.proofs.Steps.{cap_lines-by}
use Rattle.lanes.proofs.cap_second.Goals as goal

pub returns : goal.returns
returns c =
    let a = c.args in
    cap_lines-by a.flags a.k a.lanes.now _ _ a.kept.now _ _ (omega arith) c.read_second.ensures c.put_cap.ensures c.put_capped.ensures
