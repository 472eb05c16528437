-- `judge_seconds` meets its contract: behind a second that can be written the search goes on.
use Rattle.std.proofs.Common.{◌+◌, ◌∙◌, arith}
use Rattle.std.specs.Prelude.{Ok, Err}
use Rattle.refusal.specs.declared.Refusal.TheVariants.{Second}
use Rattle.walk.proofs.Walk.{scan-on}
use Rattle.writer.specs.Writer.{writable}
use Rattle.writer.proofs.judge_seconds.Goals as goal

pub loop-k-preserved : goal.loop-k-preserved
loop-k-preserved c =
    c.loop-k.invariant
    ∙ scan-on (writable c.args.seconds.now) (λ k. Err (Second (k + 1))) (λ k. Ok tt) _ _ (omega arith) c.if-not-seconds-k.false
