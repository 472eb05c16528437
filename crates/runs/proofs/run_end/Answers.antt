-- A turn of the loop of `run_end`: the run goes on at second k, and the search behind it.
use mathlib.Core.Path.{◌≡◌, ◌∙◌}
use mathlib.Core.Bool.{true}
use native.Mathlib.Omega.{arith}
use Rattle.walk.proofs.Walk.{scan-on}
use Rattle.runs.specs.Runs.{goes_on}
use Rattle.runs.proofs.run_end.Goals as goal

pub loop-k-preserved : goal.loop-k-preserved
loop-k-preserved c =
    let goes : goes_on c.args.trace.bytes.now c.args.row.now c.args.gear c.loop-k.k ≡ true = cc in
    record {
      begun = omega arith;
      same =
          c.loop-k.invariant.same
          ∙ scan-on (goes_on c.args.trace.bytes.now c.args.row.now c.args.gear) (λ k. k) (λ k. k) _ _ c.loop-k-test.true goes;
    }
