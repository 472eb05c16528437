-- The loop of `judge_seconds`: what is found from second 0 on is what is found from second k on.
use Rattle.std.proofs.Common.{◌≡◌, ◌-◌}
use Rattle.writer.specs.Writer.{judge_seconds}
use Rattle.writer.proofs.judge_seconds.Given as goal

abbrev pub invariant-loop-k : goal.invariant-loop-k
invariant-loop-k l = judge_seconds l.seconds 0 l.n ≡ judge_seconds l.seconds l.k (l.n - l.k)
