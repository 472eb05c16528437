-- The loop of `wide`: nothing is stored when it begins, and a turn stores a number more.
use Rattle.std.proofs.Common.{ℕ, List, arith, refl, get_or, length-set}
use Rattle.walk.proofs.Listed.{listed-none, listed_next}
use Rattle.speeds_crossing.proofs.wide.Goals as goal

abbrev each : List ℕ → ℕ → ℕ
each least i = get_or least i 0

pub loop-i-init : goal.loop-i-init
loop-i-init c = record { long = refl; stored = listed-none (each c.args.least) _ }

pub loop-i-preserved : goal.loop-i-preserved
loop-i-preserved c =
    let l = c.loop-i in
    record {
      long = simp length-set l.invariant.long;
      stored = listed_next (each c.args.least) _ l.i l.invariant.stored refl (omega arith);
    }
