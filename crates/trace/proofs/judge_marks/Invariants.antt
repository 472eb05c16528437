-- The loop of `judge_marks`: what is found from second 0 on is what is found from second k on.
use Rattle.std.proofs.Common.{◌≡◌, ◌-◌}
use Rattle.trace.specs.Judging.{judge_marks}
use Rattle.trace.proofs.judge_marks.Given as goal

abbrev pub invariant-loop-k : goal.invariant-loop-k
invariant-loop-k l = judge_marks l.trace.bytes.now 0 l.trace.seconds ≡ judge_marks l.trace.bytes.now l.k (l.trace.seconds - l.k)
