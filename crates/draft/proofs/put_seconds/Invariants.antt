-- The loop of `put_seconds`: the gap is that of the second before, k seconds are stored behind the first 8 bytes, and the rest is as it was.
use Rattle.std.proofs.Common.{◌≡◌, length}
use Rattle.draft.specs.Gap.{gap_before, with_seconds}
use Rattle.draft.proofs.put_seconds.Given as goal

abbrev pub invariant-loop-k : goal.invariant-loop-k
invariant-loop-k l =
    (l.gap ≡ gap_before l.draft.file.bytes.now l.k) × (length l.buffer ≡ length l.fn.buffer) × (l.buffer ≡ with_seconds l.draft.file.bytes.now l.k l.fn.buffer)
