-- The loop of `set_clutch`: a turn gives one second more its clutch.
use mathlib.Core.Path.{sym, subst}
use mathlib.Core.List.{List}
use Prim.Native.Nat.{ℕ, ◌+◌}
use native.Mathlib.Omega.{arith}
use Rattle.lane_clutch.proofs.Clutch.{Put, put_next}
use Rattle.lane_clutch.proofs.set_clutch.Goals as goal

pub loop-k-preserved : goal.loop-k-preserved
loop-k-preserved c =
    let a = c.args in
    let l = c.loop-k in
    let line = rw (c.flags.ensures, c.speed-speed.ensures.0) at c.clutch_second.ensures in
    record {
      tops = l.invariant.tops;
      put =
          subst (λ (lanes : List ℕ). Put a.trace.bytes.now a.tables.now a.lanes.now a.trace.seconds lanes (l.k + 1)) (sym line)
          (put_next a.trace.bytes.now a.tables.now a.lanes.now a.trace.seconds c.requires.1 _ l.invariant.tops l.lanes l.k (omega arith) l.invariant.put);
    }
