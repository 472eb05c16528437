-- The shift speeds of a vehicle as they cross the boundary: beside a refusal all 0.
use Rattle.std.specs.Prelude.{[], ◌∷◌, pos, Ok, Err}
use Rattle.arith.specs.declared.Ends.{Ends}
use Rattle.arith.specs.Stages.{exactly}
use Rattle.refusal.specs.Judging.{Judged}
use Rattle.vehicle.specs.declared.VehicleSheet.{VehicleSheet}
use Rattle.vehicle.specs.Sheet.{judge_vehicle}
use Rattle.shift.specs.Speeds.{shift_of}
use Rattle.speeds.specs.Upshifts.{shift_speeds_of}
use Rattle.outcome.specs.declared.Outcome.{Outcome}
use Rattle.outcome.specs.Outcome.{outcome_of}
use Rattle.speeds_crossing.specs.declared.SpeedsOutcome.{SpeedsOutcome}

abbrev none : Ends
none = exactly (pos 0)

unfoldable pub no_speeds : Outcome → SpeedsOutcome
no_speeds outcome = record { outcome = outcome; count = 0; upshift = none ∷ none ∷ none ∷ none ∷ none ∷ none ∷ none ∷ []; first = none }

abbrev pub speeds_on : Judged → VehicleSheet → SpeedsOutcome
speeds_on (Ok _) v =
    let speeds = shift_speeds_of (shift_of v) in
    record { outcome = outcome_of (Ok tt); count = speeds.count; upshift = speeds.upshift; first = speeds.first }
speeds_on (Err refusal) v = no_speeds (outcome_of (Err refusal))

-- 5, 6 and 7, or the shift speeds
unfoldable pub speeds_out : VehicleSheet → SpeedsOutcome
speeds_out v = speeds_on (judge_vehicle v) v
