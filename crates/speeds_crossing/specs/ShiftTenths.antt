-- The shift speeds of a vehicle in whole tenths as they cross the boundary: beside a refusal all 0.
use Rattle.std.specs.Prelude.{List, [], ◌∷◌, ℕ, ◌-◌, get_or, Ok, Err}
use Rattle.walk.specs.Walk.{listed}
use Rattle.refusal.specs.Judging.{Judged}
use Rattle.vehicle.specs.declared.VehicleSheet.{VehicleSheet}
use Rattle.vehicle.specs.Sheet.{judge_vehicle}
use Rattle.shift.specs.Speeds.{shift_of}
use Rattle.tenths.specs.Least.{tenths_of}
use Rattle.outcome.specs.declared.Outcome.{Outcome}
use Rattle.outcome.specs.Outcome.{outcome_of}
use Rattle.speeds_crossing.specs.declared.TenthsOutcome.{TenthsOutcome}

unfoldable pub no_tenths : Outcome → TenthsOutcome
no_tenths outcome =
    record {
      outcome = outcome;
      count = 0;
      above = 0 ∷ 0 ∷ 0 ∷ 0 ∷ 0 ∷ 0 ∷ 0 ∷ [];
      not_below = 0 ∷ 0 ∷ 0 ∷ 0 ∷ 0 ∷ 0 ∷ 0 ∷ [];
      first = 0;
    }

-- seven numbers of a list, one by one
abbrev pub seven_of : List ℕ → List ℕ
seven_of least = listed (λ i. get_or least i 0) 7

-- so many upshifts as the gears have between them
abbrev pub tenths_on : Judged → VehicleSheet → TenthsOutcome
tenths_on (Ok _) v =
    let tenths = tenths_of (shift_of v) in
    record {
      outcome = outcome_of (Ok tt);
      count = tenths.gears - 1;
      above = tenths.above;
      not_below = tenths.not_below;
      first = tenths.first;
    }
tenths_on (Err refusal) v = no_tenths (outcome_of (Err refusal))

-- 5, 6 and 7, or the tenths
unfoldable pub tenths_out : VehicleSheet → TenthsOutcome
tenths_out v = tenths_on (judge_vehicle v) v
