-- `judge_marks` meets its contract: the first marked second ends the search, and behind one that is not marked it goes on.
use Rattle.std.proofs.Common.{◌+◌, sym, ap, ◌∙◌, not, arith}
use Rattle.std.specs.Prelude.{Ok, Err}
use Rattle.refusal.specs.declared.Refusal.TheVariants.{Marked}
use Rattle.house.specs.House.{marked_at}
use Rattle.walk.proofs.Walk.{scan-on, scan-out}
use Rattle.trace.proofs.judge_marks.Goals as goal

pub returns-then-is_marked : goal.returns-then-is_marked
returns-then-is_marked c =
    sym
    (c.loop-k.invariant
    ∙ scan-out (λ k. not (marked_at c.args.trace.bytes.now k)) (λ k. Err (Marked (k + 1))) (λ k. Ok tt) _ _ (omega arith) (ap not (sym c.is_marked.ensures ∙ c.if-is_marked.true)))

pub loop-k-preserved : goal.loop-k-preserved
loop-k-preserved c =
    c.loop-k.invariant
    ∙ scan-on (λ k. not (marked_at c.args.trace.bytes.now k)) (λ k. Err (Marked (k + 1))) (λ k. Ok tt) _ _ (omega arith) (ap not (sym c.is_marked.ensures ∙ c.if-is_marked.false))
