-- The loop of `put_own`: none is put when it begins, and a turn puts a lane more.
use mathlib.Core.Path.{ap, ◌∙◌}
use Prim.Native.Nat.{ℕ, ◌+◌, ◌*◌}
use native.Mathlib.Omega.{arith}
use lib.ListN.{set}
use Rattle.phase.specs.Phase.{gear_by}
use Rattle.lanes.proofs.Lanes.{line-none, line-next}
use Rattle.lane_own.proofs.put_own.Goals as goal

pub loop-j-init : goal.loop-j-init
loop-j-init c = line-none _ _ _

pub loop-j-preserved : goal.loop-j-preserved
loop-j-preserved c =
    line-next c.loop-j.invariant (omega arith)
    (ap (set c.loop-j.lanes (16 * c.args.k + c.loop-j.j))
    (c.first_gear.ensures ∙ ap (λ (gear : ℕ). gear_by c.args.flags gear c.args.left) c.own_gear.ensures))
