-- The tenths of the shift speeds below i are stored, and the rest is as it was.
use Rattle.std.proofs.Common.{◌≡◌, ℕ, ◌++◌, length, drop}
use Rattle.walk.specs.Walk.{listed}
use Rattle.shift.specs.declared.Shift.{Shift}
use Rattle.tenths.specs.Least.{least_at}
use Rattle.tenths.proofs.tenths_of.Given as goal

abbrev pub overs : Shift → ℕ → ℕ
overs s i = (least_at s i).above

abbrev pub froms : Shift → ℕ → ℕ
froms s i = (least_at s i).not_below

abbrev pub invariant-loop-i : goal.invariant-loop-i
invariant-loop-i l =
    (length l.above ≡ 7)
    × (l.above ≡ listed (overs l.v.shift) l.i ++ drop l.i l.initial.above)
    × (length l.not_below ≡ 7)
    × (l.not_below ≡ listed (froms l.v.shift) l.i ++ drop l.i l.initial.not_below)
