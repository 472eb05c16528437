-- The loop of `count_seconds`: the gap is that of the second before, and the count is that of the first k seconds.
use Rattle.std.proofs.Common.{◌≡◌, length}
use Rattle.draft.specs.Draft.{listed_at, seconds_where}
use Rattle.draft.specs.Gap.{gap_before}
use Rattle.draft.proofs.count_seconds.Given as goal

abbrev pub invariant-loop-k : goal.invariant-loop-k
invariant-loop-k l = (l.gap ≡ gap_before l.draft.file.bytes.now l.k) × (l.count ≡ length (seconds_where (listed_at l.draft.file.bytes.now l.changed) l.k))
