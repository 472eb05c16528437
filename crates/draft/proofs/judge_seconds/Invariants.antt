-- The loop of `judge_seconds`: what is found from second 0 on is what is found from second k on.
use Rattle.std.proofs.Common.{◌≡◌, ◌-◌}
use Rattle.draft.specs.Draft.{judge_seconds}
use Rattle.draft.proofs.judge_seconds.Given as goal

abbrev pub invariant-loop-k : goal.invariant-loop-k
invariant-loop-k l = judge_seconds l.turning l.draft.file.bytes.now 0 l.draft.file.seconds ≡ judge_seconds l.turning l.draft.file.bytes.now l.k (l.draft.file.seconds - l.k)
