-- A gear that is good: the search goes on behind it.
use Rattle.std.proofs.Common.{◌∙◌, sym, arith}
use Rattle.std.specs.Prelude.{Ok, Err}
use Rattle.walk.proofs.Walk.{scan-on}
use Rattle.vehicle.specs.Sheet.{gear_good, gear_refusal}
use Rattle.vehicle.proofs.judge_gears.Goals as goal

pub loop-i-preserved : goal.loop-i-preserved
loop-i-preserved c =
    let a = c.args in
    c.loop-i.invariant
    ∙ scan-on (gear_good a.falling a.ndv) (λ i. Err (gear_refusal a.falling i)) (λ i. Ok tt) _ _ (omega arith)
    (sym c.gear_good.ensures ∙ c.if-not-gear_good.false)
