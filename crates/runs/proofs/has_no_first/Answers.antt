-- A turn of the loop of `has_no_first`: second k is no such second, and the search goes on behind it.
use mathlib.Core.Path.{sym, ap, ◌∙◌}
use mathlib.Core.Bool.{true, false, not}
use native.Mathlib.Omega.{arith}
use Rattle.walk.proofs.Walk.{scan-on}
use Rattle.house.specs.House.{no_first_at}
use Rattle.runs.proofs.has_no_first.Goals as goal

pub loop-k-preserved : goal.loop-k-preserved
loop-k-preserved c =
    let marked = rw c.flags.ensures at c.no_first.ensures in
    record {
      begun = omega arith;
      same =
          c.loop-k.invariant.same
          ∙ scan-on (λ k. not (no_first_at c.args.trace.bytes.now k)) (λ k. true) (λ k. false) _ _ c.loop-k-test.true (ap not (sym marked ∙ c.if-no_first.false));
    }
