-- A turn of the loop of `first_row`: it writes the two bytes of second k, and carries the end of its stop run on.
use mathlib.Core.Path.{◌≡◌, refl}
use native.Mathlib.Omega.{arith}
use lib.ListN.{get_or, length-set}
use Rattle.walk.proofs.Walk.{pairs_next}
use Rattle.phase.specs.Phase.{first_gear}
use Rattle.phase.proofs.Stops.{carried-next}
use Rattle.phase.proofs.first_row.Goals as goal

pub loop-k-preserved : goal.loop-k-preserved
unfolding first_gear
loop-k-preserved c =
    let trace = c.args.trace.bytes.now in
    let own = c.args.own.now in
    let gear : c.first_gear.result ≡ first_gear (λ k. get_or own k 0) trace c.args.trace.seconds c.loop-k.k = cc in
    record {
      as_long = simp length-set (omega arith);
      written = pairs_next (first_gear (λ k. get_or own k 0) trace c.args.trace.seconds) (λ i. 0) c.args.row.now c.loop-k.k c.loop-k.invariant.written gear refl (omega arith);
      carried = carried-next trace c.args.trace.seconds c.loop-k.k _ (omega arith) c.stop_end_from-end.ensures.0;
    }
