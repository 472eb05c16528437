-- One trace, many vehicles: what the gear sheet gives for each vehicle by itself. Vehicles count from 0 here.
use Rattle.std.specs.Prelude.{ℕ, ◌+◌, ◌*◌, ◌/◌, ◌%◌, ◌&&◌, List, [], ◌∷◌, eqb, leb, length, get_or, set, Ok}
use Rattle.walk.specs.Walk.{in_turn}
use Rattle.refusal.specs.Judging.{Judged, checked, and_then, if_accepted}
use Rattle.refusal.specs.declared.Refusal.TheVariants.{Room}
use Rattle.house.specs.House.{count_of}
use Rattle.trace.specs.Judging.{judge_trace}
use Rattle.vehicle.specs.declared.VehicleSheet.{VehicleSheet}
use Rattle.gear.specs.Sheet.{gear_answer, gear_buffer}
use Rattle.outcome.specs.Outcome.{outcome_of}

-- number k of the sheet of vehicle i: 14 a vehicle, in the order of the vehicle sheet
abbrev pub number_at : List ℕ → ℕ → ℕ → ℕ
number_at sheets i k = get_or sheets (14 * i + k) 0

unfoldable pub sheet_at : List ℕ → ℕ → VehicleSheet
sheet_at sheets i =
    record {
      power = number_at sheets i 0;
      mass = number_at sheets i 1;
      rated = number_at sheets i 2;
      idle = number_at sheets i 3;
      gears = number_at sheets i 4;
      ndv = number_at sheets i 5 ∷ number_at sheets i 6 ∷ number_at sheets i 7 ∷ number_at sheets i 8 ∷ number_at sheets i 9 ∷ number_at sheets i 10 ∷ number_at sheets i 11 ∷ number_at sheets i 12 ∷ [];
      rules = number_at sheets i 13;
    }

abbrev pub vehicles_in : ℕ → ℕ
vehicles_in sheets = sheets / 14

-- the bytes of a vehicle's row: two a second
abbrev pub row_bytes : List ℕ → ℕ
row_bytes trace = 2 * count_of trace

-- 8: a list of sheets that ends within one, or rows or answers that are too small
unfoldable pub judge_room : ℕ → ℕ → ℕ → ℕ → Judged
judge_room width sheets rows answers =
    checked (eqb (sheets % 14) 0 && leb (width * vehicles_in sheets) rows && leb (2 * vehicles_in sheets) answers) Room (Ok tt)

-- the whole call: 1 to 4, and 8
unfoldable pub judge_plan : List ℕ → ℕ → ℕ → ℕ → Judged
judge_plan trace sheets rows answers = and_then (judge_trace trace) (judge_room (row_bytes trace) sheets rows answers)

-- a vehicle's answer: the number and the place of its refusal, zeros where it is accepted
abbrev pub with_answer : List ℕ → ℕ → Judged → List ℕ
with_answer answers i judged = set (set answers (2 * i) (outcome_of judged).number) (2 * i + 1) (outcome_of judged).at

-- the gear sheet of vehicle i, by itself, from its own place on in the rows
abbrev pub answer_of : List ℕ → List ℕ → ℕ → ℕ → Judged
answer_of trace sheets room i = gear_answer trace (sheet_at sheets i) room (row_bytes trace * i)

-- after the first n vehicles
unfoldable pub answers_to : List ℕ → List ℕ → ℕ → List ℕ → ℕ → List ℕ
answers_to trace sheets room answers n = in_turn (λ answers i. with_answer answers i (answer_of trace sheets room i)) answers n

unfoldable pub rows_to : List ℕ → List ℕ → List ℕ → ℕ → List ℕ
rows_to trace sheets rows n = in_turn (λ rows i. gear_buffer trace (sheet_at sheets i) rows (row_bytes trace * i)) rows n

-- the two buffers at the end
unfoldable pub plan_answers : List ℕ → List ℕ → List ℕ → List ℕ → List ℕ
plan_answers trace sheets rows answers =
    if_accepted (judge_plan trace (length sheets) (length rows) (length answers)) (answers_to trace sheets (length rows) answers (vehicles_in (length sheets))) answers

unfoldable pub plan_rows : List ℕ → List ℕ → List ℕ → List ℕ → List ℕ
plan_rows trace sheets rows answers =
    if_accepted (judge_plan trace (length sheets) (length rows) (length answers)) (rows_to trace sheets rows (vehicles_in (length sheets))) rows
