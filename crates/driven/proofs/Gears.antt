-- What rule set 1 gives: gears of the vehicle.
use mathlib.Core.Bool.{Bool}
use Prim.Native.Nat.{ℕ}
use Rattle.shift.specs.declared.Shift.{Shift}
use Rattle.shift.specs.Speeds.{by_set1}
use Rattle.row.proofs.Ranges.{FromTo}

-- from gear 1 to the highest
abbrev pub Set1Range : Shift → Type 0
Set1Range s = (accelerates : Bool) (speed : ℕ) → FromTo 1 s.gears (by_set1 s accelerates speed).gear
