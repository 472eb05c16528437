-- `gap_to` meets its contract: behind a second with the phase missing the gap goes on.
use Rattle.std.proofs.Common.{◌<◌, sym, ap, ◌∙◌, arith}
use Rattle.house.specs.House.{count_of, missing}
use Rattle.draft.proofs.Gaps.{to-missing}
use Rattle.draft.proofs.gap_to.Goals as goal

pub loop-to-preserved : goal.loop-to-preserved
loop-to-preserved c =
    let inside : c.loop-to.to < count_of c.args.draft.file.bytes.now = omega (arith, c.args.draft.drafted.is) in
    let here = sym (ap missing c.flags.ensures) ∙ sym c.is_missing.ensures ∙ c.if-not-is_missing.false in
    c.loop-to.invariant ∙ to-missing c.args.draft.file.bytes.now c.loop-to.to inside here
