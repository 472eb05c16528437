-- The loop of `smooth`: it begins with every turn left, a turn is one of `judge`, and at the end none is left.
use mathlib.Core.Path.{refl}
use native.Mathlib.Omega.{arith}
use Rattle.runs.specs.Runs.{smoothed}
use Rattle.runs.proofs.Runs.{left-start, left-turn, left_end}
use Rattle.runs.proofs.smooth.Goals as goal

pub loop-start-init : goal.loop-start-init
unfolding smoothed
loop-start-init c = record { so_far = omega arith; as_long = refl; left = left-start _ _ _ }

pub loop-start-preserved : goal.loop-start-preserved
loop-start-preserved c = record {
  so_far = omega arith;
  as_long = omega arith;
  left = left-turn _ _ _ _ _ c.loop-start.invariant.left (omega arith) _ _ c.judge-start.ensures;
}

pub returns : goal.returns
returns c = left_end _ _ _ _ _ c.loop-start.invariant.left (omega arith)
