-- The loop of `first_rows`: a turn puts one second more.
use mathlib.Core.Path.{sym, subst}
use mathlib.Core.List.{List}
use Prim.Native.Nat.{ℕ, ◌+◌}
use native.Mathlib.Omega.{arith}
use Rattle.phase.proofs.Stops.{carried-next}
use Rattle.lane_own.proofs.Own.{Put, put_next}
use Rattle.lane_own.proofs.first_rows.Goals as goal

pub loop-k-preserved : goal.loop-k-preserved
loop-k-preserved c =
    let a = c.args in
    let l = c.loop-k in
    let end = c.stop_end_from-end.ensures.0 in
    let line = simp (c.flags.ensures, c.speed-speed.ensures.0, end) at c.put_own.ensures in
    record {
      put =
          subst (λ (lanes : List ℕ). Put a.trace.bytes.now a.tables.now a.lanes.now a.trace.seconds lanes (l.k + 1)) (sym line)
          (put_next a.trace.bytes.now a.tables.now a.lanes.now a.trace.seconds l.lanes l.k (omega arith) c.requires.1 l.invariant.put);
      carried = carried-next a.trace.bytes.now a.trace.seconds l.k _ (omega arith) end;
    }
