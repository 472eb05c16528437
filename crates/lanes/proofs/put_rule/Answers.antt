-- The loop of `put_rule`: none is put when it begins, and a turn puts a lane more.
use mathlib.Core.Path.{ap}
use Prim.Native.Nat.{◌+◌, ◌*◌}
use native.Mathlib.Omega.{arith}
use lib.ListN.{set}
use Rattle.lanes.proofs.Lanes.{line-none, line-next}
use Rattle.lanes.proofs.put_rule.Goals as goal

pub loop-j-init : goal.loop-j-init
loop-j-init g c = line-none _ _ _

pub loop-j-preserved : goal.loop-j-preserved
loop-j-preserved g c = line-next c.loop-j.invariant (omega arith) (ap (set c.loop-j.kept (16 * g.row.TO + c.loop-j.j)) c.ruled.ensures)
