-- The loop of `put_seconds`: k seconds are stored behind the first 8 bytes, and the rest is as it was.
use Rattle.std.proofs.Common.{◌≡◌, length}
use Rattle.writer.specs.Writer.{with_seconds}
use Rattle.writer.proofs.put_seconds.Given as goal

abbrev pub invariant-loop-k : goal.invariant-loop-k
invariant-loop-k l = (length l.buffer ≡ length l.fn.buffer) × (l.buffer ≡ with_seconds l.seconds l.k l.fn.buffer)
