-- The loop of `correct`: no second is corrected when it begins, a turn corrects one more, and at the end all are.
use mathlib.Core.Path.{refl}
use native.Mathlib.Omega.{arith}
use Rattle.lanes.proofs.Corrections.{reached-none, reached-next, reached-all}
use Rattle.lanes.proofs.correct.Goals as goal

pub loop-k-init : goal.loop-k-init
loop-k-init c = reached-none _ _ _ _ refl refl

pub loop-k-preserved : goal.loop-k-preserved
loop-k-preserved c =
    reached-next c.args.trace.bytes.now c.args.lanes.now c.args.trace.seconds c.loop-k.lanes _ c.loop-k.kept _ c.loop-k.k (omega arith) c.loop-k.invariant
    (rw (c.flags.ensures, c.flags-former.ensures, c.prior.ensures) at c.correct_second.ensures)

pub returns : goal.returns
returns c = reached-all _ _ _ _ _ _ (omega arith) c.loop-k.invariant
