-- `judge_seconds` meets its contract: the first second that is not good ends the search, and behind a good one it goes on.
use Rattle.std.proofs.Common.{◌+◌, sym, ◌∙◌, arith}
use Rattle.std.specs.Prelude.{Ok, Err}
use Rattle.refusal.specs.declared.Refusal.TheVariants.{Second}
use Rattle.house.specs.House.{second_good}
use Rattle.walk.proofs.Walk.{scan-on, scan-out}
use Rattle.trace.proofs.judge_seconds.Goals as goal

pub returns-then-not-is_good : goal.returns-then-not-is_good
returns-then-not-is_good c =
    sym
    (c.loop-k.invariant
    ∙ scan-out _ (λ k. Err (Second (k + 1))) (λ k. Ok tt) _ _ (omega arith) (sym c.is_good.ensures ∙ c.if-not-is_good.true))

pub loop-k-preserved : goal.loop-k-preserved
loop-k-preserved c =
    c.loop-k.invariant
    ∙ scan-on (second_good c.args.trace.bytes.now) (λ k. Err (Second (k + 1))) (λ k. Ok tt) _ _ (omega arith) (sym c.is_good.ensures ∙ c.if-not-is_good.false)
