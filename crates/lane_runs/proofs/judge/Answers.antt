-- `judge`: a stop rests, and so does what is behind one; elsewhere the runs are judged.
use mathlib.Core.Path.{◌≡◌, sym, subst}
use mathlib.Core.Bool.{true, false, ◌||◌}
use mathlib.Core.List.{List}
use Prim.Native.Nat.{ℕ}
use native.Mathlib.Omega.{arith}
use Rattle.house.specs.House.{stop}
use Rattle.lane_runs.specs.Runs.{Rests}
use Rattle.lane_runs.proofs.Steps.{rested, judges-stop, judges-drive}
use Rattle.lane_runs.proofs.judge.Goals as goal

pub returns-then-is_stop : goal.returns-then-is_stop
returns-then-is_stop c =
    let a = c.args in
    let halts : (stop a.flags || stop a.former) ≡ true = cc in
    judges-stop _ _ _ _ _ _ _ _ halts
    (subst (λ (runs : List ℕ). Rests a.lanes.now a.lanes.now a.runs.now runs) (sym c.put_none.ensures) (rested a.lanes.now a.runs.now (omega arith)))

pub returns-else-is_stop : goal.returns-else-is_stop
returns-else-is_stop c =
    let drives : (stop c.args.flags || stop c.args.former) ≡ false = cc in
    judges-drive _ _ _ _ _ _ _ _ drives (rw c.no_first.ensures at c.judge_runs.ensures)
