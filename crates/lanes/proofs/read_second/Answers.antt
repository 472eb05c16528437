-- The loop of `read_second`: none is put when it begins, and a turn puts a lane more.
use mathlib.Core.Path.{refl}
use native.Mathlib.Omega.{arith}
use Rattle.lanes.proofs.Lanes.{line-none, line-next}
use Rattle.lanes.proofs.read_second.Goals as goal

pub loop-j-init : goal.loop-j-init
loop-j-init c = line-none _ _ _

pub loop-j-preserved : goal.loop-j-preserved
loop-j-preserved c = line-next c.loop-j.invariant (omega arith) refl
