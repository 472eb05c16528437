-- How large what was read can be: a message that is usable is at most the limit, and what stands for a missing cutter is 0. Assumes nothing.
use mathlib.Core.Path.{◌≡◌}
use mathlib.Core.Bool.{Bool, true, false, cond}
use Prim.Native.Nat.{ℕ}
use native.Mathlib.Omega.{arith}
use lib.IntN.{pos}
use Rattle.std.specs.Prelude.{Ok, Some}
use Rattle.arith.specs.declared.Ends.{Ends}
use Rattle.arith.specs.Stages.{exactly}
use Rattle.reading.specs.declared.Message.{Message}
use Rattle.reading.specs.Units.{units_of, is_fitted, cutter_units}
use Rattle.refusal.specs.declared.Gas.{Gas}
use Rattle.reading.proofs.Usable.{usable}
use Rattle.bag.specs.Gas.{is_nmhc}
use Rattle.bag.specs.declared.Part.{Part}
use Rattle.stage.specs.Ranges.{UpTo, largest_reading}
use Rattle.stage.proofs.UpTo.{exactly-up_to}
use Rattle.sides.specs.declared.Sides.{Sides}
use Rattle.sides.specs.ReadIn.{worth_of, read_part}
use Rattle.sides.specs.Ranges.{ReadingSizes}
use Rattle.sides.proofs.Readings.{units-held}

reading-up_to : (message : Message) {ends : Ends} → units_of message ≡ Some ends → UpTo largest_reading ends
reading-up_to message e = let u = usable message e in record { least = u.least; ordered = u.narrow.ordered; most = u.limit }

cutter-up_to : (message : Message) {ends : Ends} → cutter_units message ≡ Some ends → UpTo largest_reading ends
unfolding cutter_units
cutter-up_to message {ends} = go (is_fitted message)
  where
    go : (fitted : Bool) → cond fitted (units_of message) (Some (exactly (pos 0))) ≡ Some ends → UpTo largest_reading ends
    go true e = reading-up_to message e
    go false e = let same : ends ≡ exactly (pos 0) = cc in rw same (exactly-up_to 0 (omega arith))

worth-up_to : (gas : Gas) (message : Message) {ends : Ends} → worth_of gas message ≡ Some ends → UpTo largest_reading ends
worth-up_to gas message {ends} = go (is_nmhc gas)
  where
    go : (behind : Bool) → cond behind (cutter_units message) (units_of message) ≡ Some ends → UpTo largest_reading ends
    go true e = cutter-up_to message e
    go false e = reading-up_to message e

module _ (part : ℕ) (p : Part) {sides : Sides} (e : read_part part p ≡ Ok sides) where
  pub bag_sizes : ReadingSizes sides.bag
  bag_sizes gas = worth-up_to gas _ (units-held part p sides e gas).bag

  pub air_sizes : ReadingSizes sides.air
  air_sizes gas = worth-up_to gas _ (units-held part p sides e gas).air
