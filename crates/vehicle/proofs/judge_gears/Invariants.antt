-- What is found from gear 0 on is what is found from gear i on.
use Rattle.std.proofs.Common.{◌≡◌, ◌-◌}
use Rattle.vehicle.specs.Sheet.{judge_gears}
use Rattle.vehicle.proofs.judge_gears.Given as goal

abbrev pub invariant-loop-i : goal.invariant-loop-i
invariant-loop-i l = judge_gears l.falling l.ndv 0 l.n ≡ judge_gears l.falling l.ndv l.i (l.n - l.i)
