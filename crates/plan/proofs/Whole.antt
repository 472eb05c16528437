-- All vehicles one after the other are the gear sheets of each by itself. Assumes nothing.
use mathlib.Core.Path.{◌≡◌, refl, sym, ap, ◌∙◌}
use mathlib.Core.Bool.{true, ◌&&◌}
use mathlib.Core.List.{List, ◌++◌}
use Prim.Native.Nat.{ℕ, zero, suc, ◌+◌, ◌-◌, ◌*◌, ◌%◌, ◌≤◌}
use native.Mathlib.Omega.{arith}
use borrow.Author.Tests.{le-leb, leb-true}
use lib.Dec.{eqb, leb}
use lib.ListN.{length, take, length-append, length-drop}
use lib.Seq.{drop-drop, length-take-le}
use Rattle.walk.proofs.Same.{in_turn-same}
use Rattle.std.specs.Prelude.{Ok, Err}
use Rattle.refusal.specs.Judging.{Judged, checked, and_then, if_accepted}
use Rattle.refusal.specs.declared.Refusal.{Refusal}
use Rattle.refusal.specs.declared.Refusal.TheVariants.{Room}
use Rattle.refusal.proofs.Judging.{checked-holds, then-holds}
use Rattle.refusal.proofs.Ranges.{both}
use Rattle.house.specs.House.{count_of}
use Rattle.trace.specs.Judging.{judge_trace}
use Rattle.trace.proofs.Sound.{accepted-sound}
use Rattle.vehicle.specs.declared.VehicleSheet.{VehicleSheet}
use Rattle.vehicle.specs.Sheet.{judge_vehicle}
use Rattle.shift.specs.Speeds.{shift_of}
use Rattle.phase.specs.Phase.{first_row}
use Rattle.phase.proofs.Stops.{first-length}
use Rattle.runs.specs.Corrected.{corrected}
use Rattle.runs.proofs.Frame.{corrected-length}
use Rattle.clutch.specs.Clutch.{clutch_by}
use Rattle.clutch.proofs.Clutch.{clutch-length}
use Rattle.own.specs.Own.{judge_close}
use Rattle.gear.specs.Sheet.{own_of, row_of, marks_by, judge_room, judge_sheet, gear_answer, gear_buffer}
use Rattle.plan.specs.Plan as plan
use Rattle.plan.specs.Plan.{sheet_at, vehicles_in, row_bytes, judge_plan, with_answer, answers_to, rows_to, plan_answers, plan_rows}
use Rattle.plan.specs.Lanes.{vehicle_answer, with_part, Planned, rows_up_to, answers_up_to}
use Rattle.plan.proofs.Places.{next_place, places-rise}

then-accepted : (j : Judged) → and_then j (Ok tt) ≡ j
then-accepted (Ok _) = refl
then-accepted (Err refusal) = refl

pub row-long : (v : VehicleSheet) (trace : List ℕ) (n : ℕ) → length (row_of v trace n) ≡ 2 * n
unfolding row_of
row-long v trace n =
    clutch-length (clutch_by v trace) (corrected trace (first_row (own_of v trace) trace n) n) n
    ∙ corrected-length trace (first_row (own_of v trace) trace n) n
    ∙ first-length (own_of v trace) trace n

pub part-long : (rows row : List ℕ) (at width : ℕ) → length row ≡ width → at + width ≤ length rows → length (with_part rows at width row) ≡ length rows
part-long rows row at width long fits =
    let front : length (take at rows) ≡ at = length-take-le at rows (omega arith) in
    simp (length-append, length-drop) (omega arith)

if-long : (j : Judged) (a b : List ℕ) (n : ℕ) → length a ≡ n → length b ≡ n → length (if_accepted j a b) ≡ n
if-long (Ok _) a b n p q = p
if-long (Err refusal) a b n p q = q

module _ (trace : List ℕ) (accepted : judge_trace trace ≡ Ok tt) where
  abbrev n : ℕ
  n = count_of trace

  -- ---- one vehicle, where its row has room
  pub answer-is : (v : VehicleSheet) (room start : ℕ) → start + 2 * n ≤ room → gear_answer trace v room start ≡ vehicle_answer trace v n
  unfolding gear_answer judge_sheet vehicle_answer
  answer-is v room start fits =
      let from : leb start room ≡ true = le-leb start room (omega arith) in
      let long : leb (2 * n) (room - start) ≡ true = le-leb (2 * n) (room - start) (omega arith) in
      let roomy : judge_room n room start ≡ Ok tt = (λ i. checked (from i && long i) Room (Ok tt)) in
      let marks = marks_by v trace n in
      ap (λ (j : Judged). and_then (and_then j (and_then (judge_vehicle v) (and_then marks (judge_room n room start)))) (judge_close (shift_of v) trace 0 n)) accepted
      ∙ ap (λ (j : Judged). and_then (and_then (judge_vehicle v) (and_then marks j)) (judge_close (shift_of v) trace 0 n)) roomy
      ∙ ap (λ (j : Judged). and_then (and_then (judge_vehicle v) j) (judge_close (shift_of v) trace 0 n)) (then-accepted marks)

  pub buffer-is : (v : VehicleSheet) (rows : List ℕ) (start : ℕ) → start + 2 * n ≤ length rows
      → if_accepted (vehicle_answer trace v n) (with_part rows start (2 * n) (row_of v trace n)) rows ≡ gear_buffer trace v rows start
  unfolding gear_buffer
  buffer-is v rows start fits =
      let answer = answer-is v (length rows) start fits in
      let rest = drop-drop (2 * n) start rows in
      sym (λ i. if_accepted (answer i) (take start rows ++ (row_of v trace n ++ rest i)) rows)

  module _ (sheets : List ℕ) where
    -- ---- all
    pub up-to-long : (rows : List ℕ) (m : ℕ) → 2 * n * m ≤ length rows → length (rows_up_to trace sheets n rows m) ≡ length rows
    up-to-long rows zero h = refl
    up-to-long rows (suc m) h =
        let next : 2 * n * suc m ≡ 2 * n * m + 2 * n = omega arith in
        let before = up-to-long rows m (omega arith) in
        let v = sheet_at sheets m in
        if-long (vehicle_answer trace v n) (with_part (rows_up_to trace sheets n rows m) (2 * n * m) (2 * n) (row_of v trace n)) (rows_up_to trace sheets n rows m) (length rows)
        (part-long (rows_up_to trace sheets n rows m) (row_of v trace n) (2 * n * m) (2 * n) (row-long v trace n) (omega arith) ∙ before) before

    rows_are : (rows : List ℕ) (m : ℕ) → 2 * n * m ≤ length rows → rows_up_to trace sheets n rows m ≡ rows_to trace sheets rows m
    unfolding rows_to
    rows_are rows zero h = refl
    rows_are rows (suc m) h =
        let next : 2 * n * suc m ≡ 2 * n * m + 2 * n = omega arith in
        let long = up-to-long rows m (omega arith) in
        buffer-is (sheet_at sheets m) (rows_up_to trace sheets n rows m) (2 * n * m) (omega arith)
        ∙ ap (λ (rows : List ℕ). gear_buffer trace (sheet_at sheets m) rows (2 * n * m)) (rows_are rows m (omega arith))

    answers-are : (room : ℕ) (answers : List ℕ) (m : ℕ) → 2 * n * m ≤ room → answers_up_to trace sheets n answers m ≡ answers_to trace sheets room answers m
    unfolding answers_to
    answers-are room answers m h =
        in_turn-same _ _ answers m
        (λ s i l.
        let rise = places-rise (2 * n) (i + 1) m (omega arith) in
        ap (with_answer s i) (sym (answer-is (sheet_at sheets i) room (2 * n * i) (omega (arith, rise, next_place (2 * n) i)))))

-- ---- the whole call
module _ (trace sheets rows answers : List ℕ) where
  abbrev judged : Judged
  judged = judge_plan trace (length sheets) (length rows) (length answers)

  module _ (accepted : judged ≡ Ok tt) where
    pub trace-accepted : judge_trace trace ≡ Ok tt
    unfolding judge_plan
    trace-accepted = (then-holds (judge_trace trace) (plan.judge_room (row_bytes trace) (length sheets) (length rows) (length answers)) accepted).0

    pub room-tells : (2 * count_of trace * vehicles_in (length sheets) ≤ length rows) × (2 * vehicles_in (length sheets) ≤ length answers)
    unfolding judge_plan plan.judge_room
    room-tells =
        let last = (then-holds (judge_trace trace) (plan.judge_room (row_bytes trace) (length sheets) (length rows) (length answers)) accepted).1 in
        let whole = eqb (length sheets % 14) 0 in
        let in_rows = leb (row_bytes trace * vehicles_in (length sheets)) (length rows) in
        let in_answers = leb (2 * vehicles_in (length sheets)) (length answers) in
        let holds = both (whole && in_rows) in_answers (checked-holds (whole && in_rows && in_answers) Room (Ok tt) last).0 in
        (leb-true _ _ (both whole in_rows holds.0).1, leb-true _ _ holds.1)

    pub planned : Planned trace (length sheets) (count_of trace) (length rows) (length answers)
    planned =
        let s = accepted-sound trace trace-accepted in
        record {
          read = record { lasts = omega (arith, s.exact); few = s.few; speeds = s.speeds };
          in_rows = room-tells.0;
          in_answers = room-tells.1;
        }

    pub rows_written : rows_up_to trace sheets (count_of trace) rows (vehicles_in (length sheets)) ≡ plan_rows trace sheets rows answers
    unfolding plan_rows
    rows_written =
        rows_are trace trace-accepted sheets rows (vehicles_in (length sheets)) room-tells.0
        ∙ sym (ap (λ (j : Judged). if_accepted j (rows_to trace sheets rows (vehicles_in (length sheets))) rows) accepted)

    pub answers-written : answers_up_to trace sheets (count_of trace) answers (vehicles_in (length sheets)) ≡ plan_answers trace sheets rows answers
    unfolding plan_answers
    answers-written =
        answers-are trace trace-accepted sheets (length rows) answers (vehicles_in (length sheets)) room-tells.0
        ∙ sym (ap (λ (j : Judged). if_accepted j (answers_to trace sheets (length rows) answers (vehicles_in (length sheets))) answers) accepted)

  module _ (refusal : Refusal) (refused : judged ≡ Err refusal) where
    pub rows_stay : rows ≡ plan_rows trace sheets rows answers
    unfolding plan_rows
    rows_stay = sym (ap (λ (j : Judged). if_accepted j (rows_to trace sheets rows (vehicles_in (length sheets))) rows) refused)

    pub answers_stay : answers ≡ plan_answers trace sheets rows answers
    unfolding plan_answers
    answers_stay = sym (ap (λ (j : Judged). if_accepted j (answers_to trace sheets (length rows) answers (vehicles_in (length sheets))) answers) refused)
