-- The loop of `list_seconds`: the gap is that of the second before, and those of the first k seconds are listed, so many as `at` says.
use Rattle.std.proofs.Common.{◌≡◌, ◌++◌, length, drop}
use Rattle.draft.specs.Draft.{listed_at, seconds_where}
use Rattle.draft.specs.Gap.{gap_before}
use Rattle.draft.proofs.list_seconds.Given as goal

abbrev pub invariant-loop-k : goal.invariant-loop-k
invariant-loop-k l =
    let listed = seconds_where (listed_at l.draft.file.bytes.now l.changed) l.k in
    (l.gap ≡ gap_before l.draft.file.bytes.now l.k) × (length l.list ≡ length l.fn.list) × (l.at ≡ length listed) × (l.list ≡ listed ++ drop l.at l.fn.list)
