-- The loop of `smooth`: no second is judged when it begins, a turn judges one more, and at the end all are.
use mathlib.Core.Path.{refl}
use native.Mathlib.Omega.{arith}
use Rattle.lane_runs.proofs.Smoothing.{reached-none, reached-next, reached-all}
use Rattle.lane_runs.proofs.smooth.Goals as goal

pub loop-k-init : goal.loop-k-init
loop-k-init c = reached-none _ _ _ _ refl refl

pub loop-k-preserved : goal.loop-k-preserved
loop-k-preserved c =
    reached-next c.args.trace.bytes.now c.args.lanes.now c.args.trace.seconds c.loop-k.lanes _ c.loop-k.runs _ c.loop-k.former _ _ c.loop-k.k (omega arith)
    c.flags-flags.ensures c.prior.ensures c.loop-k.invariant c.judge.ensures

pub returns : goal.returns
returns c = reached-all _ _ _ _ _ _ _ (omega arith) c.loop-k.invariant
