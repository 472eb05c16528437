-- What the loop of `finish` keeps: of the seconds that wait, newest first, i are written, over zeros.
use Rattle.std.proofs.Common.{◌≡◌, ℕ, ◌+◌, ◌-◌, ◌*◌, ◌≤◌, List, ◌++◌, get_or, drop}
use Rattle.walk.specs.Walk.{pairs}
use Rattle.vehicle.specs.declared.VehicleSheet.{VehicleSheet}
use Rattle.clutch.specs.Clutch.{clutch_of}
use Rattle.live.proofs.finish.Given as goal

-- of m seconds that wait, newest first
abbrev pub gear_from : List ℕ → ℕ → ℕ → ℕ
gear_from gears m i = get_or gears (m - (i + 1)) 0

abbrev pub clutch_from : VehicleSheet → List ℕ → List ℕ → List ℕ → ℕ → ℕ → ℕ
clutch_from v gears marks speeds m i = clutch_of v (get_or marks (m - (i + 1)) 0) (get_or speeds (m - (i + 1)) 0) (gear_from gears m i)

abbrev pub invariant-loop-i : goal.invariant-loop-i
invariant-loop-i l = record {
  few : l.m ≤ 5;
  written : l.bytes ≡ pairs (gear_from l.gears l.m) (clutch_from l.v l.gears l.marks l.speeds l.m) l.i ++ drop (2 * l.i) l.initial.bytes;
}
