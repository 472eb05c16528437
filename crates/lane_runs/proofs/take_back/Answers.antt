-- A turn of the loop of `take_back`: one second more is taken.
use mathlib.Core.Path.{sym, subst}
use mathlib.Core.List.{List}
use Prim.Native.Nat.{ℕ, ◌+◌}
use native.Mathlib.Omega.{arith}
use Rattle.lane_runs.specs.Runs.{TakenTo}
use Rattle.lane_runs.proofs.Steps.{taken_next}
use Rattle.lane_runs.proofs.take_back.Goals as goal

pub loop-d-preserved : goal.loop-d-preserved
loop-d-preserved c =
    let runs = c.args.runs.now in
    let lanes = c.args.lanes.now in
    subst (λ (lanes' : List ℕ). TakenTo (c.loop-d.d + 1) runs c.args.k lanes lanes') (sym c.take_one.ensures)
    (taken_next runs c.args.k lanes (omega arith) c.loop-d.lanes c.loop-d.d c.loop-d.invariant)
