-- The loop of `judge_seconds`: what is found from second 0 on is what is found from second k on.
use Rattle.std.proofs.Common.{◌≡◌, ◌-◌}
use Rattle.trace.specs.Judging.{judge_seconds}
use Rattle.trace.proofs.judge_seconds.Given as goal

abbrev pub invariant-loop-k : goal.invariant-loop-k
invariant-loop-k l = judge_seconds l.trace.bytes.now 0 l.trace.seconds ≡ judge_seconds l.trace.bytes.now l.k (l.trace.seconds - l.k)
