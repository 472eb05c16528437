-- `is_level` meets its contract: behind a second with the speed of the first the search goes on.
use Rattle.std.proofs.Common.{sym, ◌∙◌, false, true, nat_eq, eq-eqb, arith}
use Rattle.walk.proofs.Walk.{scan-on}
use Rattle.house.specs.House.{speed_at}
use Rattle.draft.proofs.is_level.Goals as goal

pub loop-k-preserved : goal.loop-k-preserved
loop-k-preserved c =
    let draft = c.args.draft.file.bytes.now in
    let from = c.args.from in
    c.loop-k.invariant
    ∙ scan-on (λ k. nat_eq (speed_at draft k) (speed_at draft from)) (λ k. false) (λ k. true) _ _ (omega arith)
    (eq-eqb _ _ (sym c.speed.ensures.0 ∙ c.if-speed.false ∙ c.speed-speed.ensures.0))
