-- A turn of the loop of `stop_end`: second i is a stop, and the run goes on behind it.
use mathlib.Core.Path.{◌≡◌, ◌∙◌}
use mathlib.Core.Bool.{true}
use native.Mathlib.Omega.{arith}
use Rattle.walk.proofs.Walk.{scan-on}
use Rattle.house.specs.House.{stop_at}
use Rattle.phase.proofs.stop_end.Goals as goal

pub loop-i-preserved : goal.loop-i-preserved
loop-i-preserved c =
    let stops : stop_at c.args.trace.bytes.now c.loop-i.i ≡ true = cc in
    record {
      begun = omega arith;
      same = c.loop-i.invariant.same ∙ scan-on (stop_at c.args.trace.bytes.now) (λ i. i) (λ i. i) _ _ (omega arith) stops;
    }
