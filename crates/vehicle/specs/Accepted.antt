-- What is made of a vehicle sheet that is judged.
use Rattle.std.specs.Prelude.{◌≡◌, Result, Ok, Err}
use Rattle.refusal.specs.declared.Refusal.{Refusal}
use Rattle.refusal.specs.Judging.{Judged}
use Rattle.vehicle.specs.declared.VehicleSheet.{VehicleSheet}
use Rattle.vehicle.specs.declared.accepted.Vehicle.{Vehicle}

-- of a sheet that was judged so: its vehicle, or the refusal
abbrev pub Accepted : VehicleSheet → Judged → Result Vehicle Refusal → Type 0
Accepted v judged (Ok vehicle) = (judged ≡ Ok tt) × (vehicle.sheet ≡ v)
Accepted v judged (Err refusal) = judged ≡ Err refusal
