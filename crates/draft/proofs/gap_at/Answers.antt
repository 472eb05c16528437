-- `gap_at` meets its contract: a gap that goes on stays, and another begins here.
use Rattle.std.proofs.Common.{ap, sym, false, ◌∙◌, arith}
use Rattle.draft.specs.declared.Gap.{Gap}
use Rattle.draft.proofs.Gaps.{same_gap, known-gap, new-gap}
use Rattle.draft.proofs.gap_at.Goals as goal

pub returns-then-k-last : goal.returns-then-k-last
returns-then-k-last c =
    let last = c.requires.1 in
    let to = ap (λ (gap : Gap). gap.to) last in
    last ∙ same_gap c.args.draft.file.bytes.now c.args.k (omega (arith, c.args.draft.drafted.is)) (omega (arith, c.if-k-last.true, to))

pub returns-then-to-k : goal.returns-then-to-k
returns-then-to-k c =
    let to = c.if-to-k.true in
    (λ i. record { to = to i; taken = false }) ∙ known-gap c.args.draft.file.bytes.now c.args.k (omega (arith, c.args.draft.drafted.is)) (sym c.gap_to-to.ensures.0 ∙ to)

pub returns : goal.returns
returns c =
    let last = ap (λ (gap : Gap). gap.to) c.requires.1 in
    let further = c.gap_to-to.ensures.1 in
    new-gap c.args.draft.file.bytes.now c.args.k c.gap_to-to.result (omega (arith, c.args.draft.drafted.is)) (omega (arith, c.if-k-last.false, last)) c.gap_to-to.ensures.0
    (omega (arith, c.if-to-k.false, further))
    c.is_bounded-taken.ensures
