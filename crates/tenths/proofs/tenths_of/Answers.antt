-- Before the first turn nothing is stored; a turn stores the tenths of one shift speed.
use Rattle.std.proofs.Common.{ap, arith, refl, length-set}
use Rattle.walk.proofs.Listed.{listed-none, listed_next}
use Rattle.tenths.specs.declared.LeastTenths.{LeastTenths}
use Rattle.tenths.proofs.tenths_of.Invariants.{overs, froms}
use Rattle.tenths.proofs.tenths_of.Goals as goal

pub loop-i-init : goal.loop-i-init
loop-i-init c = let s = c.args.v.shift in (refl, listed-none (overs s) _, refl, listed-none (froms s) _)

pub loop-i-preserved : goal.loop-i-preserved
loop-i-preserved c =
    let l = c.loop-i in
    let s = c.args.v.shift in
    let one = c.least_at-one.ensures in (
      simp length-set l.invariant.0,
      listed_next (overs s) _ l.i l.invariant.1 (ap (λ (e : LeastTenths). e.above) one) (omega arith),
      simp length-set l.invariant.2,
      listed_next (froms s) _ l.i l.invariant.3 (ap (λ (e : LeastTenths). e.not_below) one) (omega arith),
    )
