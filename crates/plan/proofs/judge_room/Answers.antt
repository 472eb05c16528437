-- `judge_room`: as many as fit, or the length of them all.
use Rattle.std.proofs.Common.{◌∙◌, ◌/◌, ◌%◌, ◌&&◌, eqb, arith}
use Rattle.std.specs.Prelude.{Ok}
use Rattle.refusal.specs.declared.Refusal.TheVariants.{Room}
use Rattle.refusal.specs.Judging.{checked}
use Rattle.plan.specs.Plan.{judge_room}
use Rattle.plan.proofs.Places.{fit}
use Rattle.plan.proofs.judge_room.Goals as goal

pub returns : goal.returns
unfolding judge_room
returns c =
    let a = c.args in
    let rows = fit a.width (a.sheets / 14) a.rows c.requires in
    let answers = fit 2 (a.sheets / 14) a.answers (omega arith) in
    c.check.ensures ∙ (λ i. checked (eqb (a.sheets % 14) 0 && rows i && answers i) Room (Ok tt))
