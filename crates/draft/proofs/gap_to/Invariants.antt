-- The loop of `gap_to`: the end of the gap from second k on is that from second `to` on.
use Rattle.std.proofs.Common.{◌≡◌}
use Rattle.draft.specs.Draft.{gap_to}
use Rattle.draft.proofs.gap_to.Given as goal

abbrev pub invariant-loop-to : goal.invariant-loop-to
invariant-loop-to l = gap_to l.draft.file.bytes.now l.k ≡ gap_to l.draft.file.bytes.now l.to
