-- The loop of `put_reach`: none is put when it begins, and a turn puts a lane more.
use mathlib.Core.Path.{ap}
use Prim.Native.Nat.{◌+◌, ◌*◌}
use native.Mathlib.Omega.{arith}
use lib.ListN.{set}
use Rattle.lanes.proofs.Lanes.{line-none, line-next}
use Rattle.lane_runs.proofs.put_reach.Goals as goal

pub loop-j-init : goal.loop-j-init
loop-j-init c = line-none _ _ _

pub loop-j-preserved : goal.loop-j-preserved
loop-j-preserved c = line-next c.loop-j.invariant (omega arith) (ap (set c.loop-j.runs (16 * 2 + c.loop-j.j)) c.reach.ensures)
