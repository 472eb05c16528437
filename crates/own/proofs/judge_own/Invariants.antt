-- What is found from second 0 on is what is found from second k on.
use Rattle.std.proofs.Common.{◌≡◌, ◌-◌}
use Rattle.own.specs.Own.{judge_own}
use Rattle.own.specs.ByTenths.{second_at}
use Rattle.own.proofs.judge_own.Given as goal

abbrev pub invariant-loop-k : goal.invariant-loop-k
invariant-loop-k l = judge_own (second_at l.t l.trace.bytes.now) 0 l.trace.seconds ≡ judge_own (second_at l.t l.trace.bytes.now) l.k (l.trace.seconds - l.k)
