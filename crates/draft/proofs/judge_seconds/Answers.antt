-- `judge_seconds` meets its contract: the first second that is not good ends the search, and behind a good one it goes on.
use Rattle.std.proofs.Common.{◌≡◌, ◌+◌, ◌&&◌, sym, ap, ◌∙◌, not, arith}
use Rattle.std.specs.Prelude.{Ok, Err}
use Rattle.refusal.specs.declared.Refusal.TheVariants.{Second}
use Rattle.walk.proofs.Walk.{scan-on, scan-out}
use Rattle.house.specs.House.{missing}
use Rattle.draft.specs.Draft.{good_for}
use Rattle.draft.proofs.judge_seconds.Goals as goal

pub returns-then-not-is_draft_good-open : goal.returns-then-not-is_draft_good-open
returns-then-not-is_draft_good-open c =
    let judged : (c.is_draft_good.result && not (c.args.turning && c.is_missing.result)) ≡ good_for c.args.turning c.args.draft.file.bytes.now c.loop-k.k =
    (λ i. c.is_draft_good.ensures i && not (c.args.turning && (c.is_missing.ensures ∙ ap missing c.flags.ensures) i)) in
    sym
    (c.loop-k.invariant
    ∙ scan-out (good_for c.args.turning c.args.draft.file.bytes.now) (λ k. Err (Second (k + 1))) (λ k. Ok tt) _ _ (omega arith) (sym judged ∙ c.if-not-is_draft_good-open.true))

pub loop-k-preserved : goal.loop-k-preserved
loop-k-preserved c =
    let judged : (c.is_draft_good.result && not (c.args.turning && c.is_missing.result)) ≡ good_for c.args.turning c.args.draft.file.bytes.now c.loop-k.k =
    (λ i. c.is_draft_good.ensures i && not (c.args.turning && (c.is_missing.ensures ∙ ap missing c.flags.ensures) i)) in
    c.loop-k.invariant
    ∙ scan-on (good_for c.args.turning c.args.draft.file.bytes.now) (λ k. Err (Second (k + 1))) (λ k. Ok tt) _ _ (omega arith) (sym judged ∙ c.if-not-is_draft_good-open.false)
