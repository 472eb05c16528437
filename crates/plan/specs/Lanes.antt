-- Sixteen of the vehicles beside each other: what the code works with on the way. Lanes and lines count from 0 here.
use Rattle.std.specs.Prelude.{ℕ, ◌+◌, ◌-◌, ◌*◌, ◌/◌, ◌%◌, ◌<◌, ◌≤◌, ◌≡◌, cond, List, ◌++◌, eqb, ltb, length, get_or, set, take, drop, Ok, Err}
use Rattle.walk.specs.Walk.{in_turn, pairs}
use Rattle.refusal.specs.Judging.{Judged, and_then, if_accepted}
use Rattle.house.specs.House.{Lasts, speed_at}
use Rattle.trace.specs.Judging.{judge_marks}
use Rattle.vehicle.specs.declared.VehicleSheet.{VehicleSheet}
use Rattle.vehicle.specs.Sheet.{judge_vehicle, Sound}
use Rattle.shift.specs.Speeds.{shift_of}
use Rattle.tenths.specs.declared.Tenths.{Tenths}
use Rattle.tenths.specs.Least.{tenths_of}
use Rattle.own.specs.Own.{judge_close}
use Rattle.gear.specs.Sheet.{row_of}
use Rattle.lanes.specs.Lanes.{lane_at}
use Rattle.lane_own.specs.Own.{TableOf}
use Rattle.lane_clutch.specs.Clutch.{limit_of, LimitsOf}
use Rattle.plan.specs.Plan.{sheet_at, vehicles_in, with_answer}

-- what is known of the trace once it is accepted
pub record Read (trace : List ℕ) (n : ℕ) : Type 0 where
  pub lasts : Lasts trace n
  pub few : n ≤ 2000
  pub speeds : (k : ℕ) → k < n → speed_at trace k ≤ 2000

-- 5 to 7 and 20, by what is wrong with the trace's marks; and with 9, what is refused of a vehicle
abbrev pub sheet_answer : VehicleSheet → Judged → Judged
sheet_answer v marks = and_then (judge_vehicle v) (cond (eqb v.rules 2) marks (Ok tt))

unfoldable pub vehicle_answer : List ℕ → VehicleSheet → ℕ → Judged
vehicle_answer trace v n = and_then (sheet_answer v (judge_marks trace 0 n)) (judge_close (shift_of v) trace 0 n)

-- line i of the tables for a vehicle: its upshifts, the last once more, the downshift 2 to 1, the limits of its clutch, and that it is accepted
unfoldable pub table_at : VehicleSheet → Tenths → ℕ → ℕ
table_at v t i =
    cond (ltb i 7) (get_or t.above i 0)
    (cond (eqb i 7) t.last.above
    (cond (eqb i 8) t.first
    (cond (ltb i 17) (limit_of v (i - 8)) 1)))

unfoldable pub with_table : VehicleSheet → Tenths → ℕ → List ℕ → ℕ → List ℕ
with_table v t j tables n = in_turn (λ tables i. set tables (16 * i + j) (table_at v t i)) tables n

-- 1 for an accepted vehicle, 0 for a refused one
abbrev pub flag_of : Judged → ℕ
flag_of (Ok _) = 1
flag_of (Err refusal) = 0

-- a vehicle in its lane
pub record Tabled (v : VehicleSheet) (tables : List ℕ) (j : ℕ) : Type 0 where
  pub sound : Sound v
  pub tenths : TableOf (tenths_of (shift_of v)) tables j
  pub limits : LimitsOf v tables j

pub record Lane (v : VehicleSheet) (answer : Judged) (tables : List ℕ) (j : ℕ) : Type 0 where
  pub flag : lane_at tables j 17 ≡ flag_of answer
  pub table : answer ≡ Ok tt → Tabled v tables j

-- one lane is put, and no other is changed
pub record Entered (v : VehicleSheet) (answer : Judged) (tables tables' : List ℕ) (j : ℕ) : Type 0 where
  pub long : length tables' ≡ length tables
  pub others : (h i : ℕ) → h < 16 → (h ≡ j → ⊥) → lane_at tables' h i ≡ lane_at tables h i
  pub lane : Lane v answer tables' j

-- the first lanes have the vehicles from one on
abbrev pub Lanes : List ℕ → List ℕ → ℕ → ℕ → List ℕ → ℕ → Type 0
Lanes trace sheets n from tables few = (j : ℕ) → j < few → Lane (sheet_at sheets (from + j)) (vehicle_answer trace (sheet_at sheets (from + j)) n) tables j

-- their answers and rows, after one another
abbrev pub answers_from : List ℕ → List ℕ → ℕ → ℕ → List ℕ → ℕ → List ℕ
answers_from trace sheets n from answers few =
    in_turn (λ answers j. with_answer answers (from + j) (vehicle_answer trace (sheet_at sheets (from + j)) n)) answers few

-- a part of the rows, from `at` on, with another row in it
abbrev pub with_part : List ℕ → ℕ → ℕ → List ℕ → List ℕ
with_part rows at width row = take at rows ++ (row ++ drop (at + width) rows)

abbrev pub rows_from : List ℕ → List ℕ → ℕ → ℕ → List ℕ → ℕ → List ℕ
rows_from trace sheets n from rows few =
    in_turn (λ rows j. if_accepted (vehicle_answer trace (sheet_at sheets (from + j)) n) (with_part rows (2 * n * (from + j)) (2 * n) (row_of (sheet_at sheets (from + j)) trace n)) rows) rows few

-- the row of lane j, from its bytes
abbrev pub lane_row : List ℕ → ℕ → ℕ → List ℕ
lane_row lanes j n = pairs (λ k. lane_at lanes j k % 128) (λ k. lane_at lanes j k / 128) n

-- every vehicle's lane has its row
pub record Finishes (trace tables before after : List ℕ) (n : ℕ) : Type 0 where
  pub long : length after ≡ length before
  pub lane : (j : ℕ) → j < 16 → (v : VehicleSheet) → Tabled v tables j → lane_row after j n ≡ row_of v trace n

-- the rows with those of the first lanes, from `at` on
abbrev pub parts_to : List ℕ → List ℕ → ℕ → ℕ → List ℕ → ℕ → List ℕ
parts_to tables lanes n at rows few =
    in_turn (λ rows j. cond (eqb (lane_at tables j 17) 1) (with_part rows (at + 2 * n * j) (2 * n) (lane_row lanes j n)) rows) rows few

-- what it takes to write those from one on: the trace is read, and everything has room
pub record Writing (trace sheets : List ℕ) (marks : Judged) (n from few at tables lanes rows answers : ℕ) : Type 0 where
  pub read : Read trace n
  pub marked : marks ≡ judge_marks trace 0 n
  pub in_tables : 288 ≤ tables
  pub in_lanes : 16 * n ≤ lanes
  pub sixteen : few ≤ 16
  pub begins : at ≡ 2 * n * from
  pub in_sheets : 14 * (from + few) ≤ length sheets
  pub in_answers : 2 * (from + few) ≤ answers
  pub in_rows : at + 2 * n * few ≤ rows

-- what an accepted call has
pub record Planned (trace : List ℕ) (sheets n rows answers : ℕ) : Type 0 where
  pub read : Read trace n
  pub in_rows : 2 * n * vehicles_in sheets ≤ rows
  pub in_answers : 2 * vehicles_in sheets ≤ answers

-- the first m vehicles, one after the other
abbrev pub rows_up_to : List ℕ → List ℕ → ℕ → List ℕ → ℕ → List ℕ
rows_up_to trace sheets n rows m =
    in_turn (λ rows i. if_accepted (vehicle_answer trace (sheet_at sheets i) n) (with_part rows (2 * n * i) (2 * n) (row_of (sheet_at sheets i) trace n)) rows) rows m

abbrev pub answers_up_to : List ℕ → List ℕ → ℕ → List ℕ → ℕ → List ℕ
answers_up_to trace sheets n answers m = in_turn (λ answers i. with_answer answers i (vehicle_answer trace (sheet_at sheets i) n)) answers m
