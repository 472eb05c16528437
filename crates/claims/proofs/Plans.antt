-- Of every accepted plan: each vehicle has what the gear sheet gives it by itself, and nothing else is changed. Assumes nothing.
use mathlib.Core.Path.{◌≡◌, sym, ap, ◌∙◌}
use mathlib.Core.List.{List, ◌++◌}
use Prim.Native.Nat.{ℕ, ◌+◌, ◌*◌, ◌<◌, ◌≤◌}
use native.Mathlib.Omega.{arith}
use lib.ListN.{length, get_or, drop, length-drop}
use lib.Seq.{length-take-le}
use Rattle.std.specs.Prelude.{Ok}
use Rattle.refusal.specs.Judging.{Judged, if_accepted}
use Rattle.house.specs.House.{count_of}
use Rattle.gear.specs.Sheet.{row_of, gear_answer, gear_buffer}
use Rattle.gear.proofs.Buffer.{exact}
use Rattle.outcome.specs.Outcome.{outcome_of}
use Rattle.plan.specs.Plan.{sheet_at, vehicles_in, row_bytes, judge_plan}
use Rattle.plan.specs.Lanes.{vehicle_answer}
use Rattle.plan.proofs.Places.{next_place, places-rise}
use Rattle.plan.proofs.Whole.{answer-is, buffer-is, up-to-long, trace-accepted, room-tells, rows_written, answers-written}
use Rattle.plan.proofs.Parts.{part-is, rest-kept, answers_long, answers_rest, answer-given}
use Rattle.claims.specs.Plans.{part_of, ByItself, Untouched}

module _ (trace sheets rows answers : List ℕ) (accepted : judge_plan trace (length sheets) (length rows) (length answers) ≡ Ok tt) where
  abbrev count : ℕ
  count = vehicles_in (length sheets)

  in_rows : row_bytes trace * count ≤ length rows
  in_rows = (room-tells trace sheets rows answers accepted).0

  in_answers : 2 * count ≤ length answers
  in_answers = (room-tells trace sheets rows answers accepted).1

  module _ (i : ℕ) (l : i < count) where
    abbrev width : ℕ
    width = row_bytes trace

    part-long : length (part_of trace i rows) ≡ width
    part-long =
        let rise = places-rise width (i + 1) count (omega arith) in
        length-take-le width (drop (width * i) rows) (simp length-drop (omega (arith, rise, next_place width i, in_rows)))

    -- by itself it has room
    alone : gear_answer trace (sheet_at sheets i) width 0 ≡ vehicle_answer trace (sheet_at sheets i) (count_of trace)
    alone = answer-is trace (trace-accepted trace sheets rows answers accepted) (sheet_at sheets i) width 0 (omega arith)

    alone-row : if_accepted (vehicle_answer trace (sheet_at sheets i) (count_of trace)) (row_of (sheet_at sheets i) trace (count_of trace)) (part_of trace i rows)
        ≡ gear_buffer trace (sheet_at sheets i) (part_of trace i rows) 0
    alone-row =
        let row = row_of (sheet_at sheets i) trace (count_of trace) in
        let whole = exact row (part_of trace i rows) width part-long in
        let start : width ≡ 0 + width = omega arith in
        ap (λ (new : List ℕ). if_accepted (vehicle_answer trace (sheet_at sheets i) (count_of trace)) new (part_of trace i rows))
        (sym whole ∙ ap (λ (k : ℕ). row ++ drop k (part_of trace i rows)) start)
        ∙ buffer-is trace (trace-accepted trace sheets rows answers accepted) (sheet_at sheets i) (part_of trace i rows) 0 (omega (arith, part-long))

    pub by_itself : ByItself trace sheets rows answers i
    by_itself =
        let yes = trace-accepted trace sheets rows answers accepted in
        let given = answer-given trace yes sheets answers count i in_answers l in
        let all = answers-written trace sheets rows answers accepted in
        record {
          number = ap (λ (l : List ℕ). get_or l (2 * i) 0) (sym all) ∙ given.0 ∙ ap (λ (j : Judged). (outcome_of j).number) (sym alone);
          place = ap (λ (l : List ℕ). get_or l (2 * i + 1) 0) (sym all) ∙ given.1 ∙ ap (λ (j : Judged). (outcome_of j).at) (sym alone);
          row =
              ap (part_of trace i) (sym (rows_written trace sheets rows answers accepted))
              ∙ part-is trace yes sheets rows count i in_rows l
              ∙ alone-row;
        }

  pub untouched : Untouched trace sheets rows answers
  untouched =
      let yes = trace-accepted trace sheets rows answers accepted in
      let rows_all = rows_written trace sheets rows answers accepted in
      let answers-all = answers-written trace sheets rows answers accepted in
      record {
        rows_long = ap length (sym rows_all) ∙ up-to-long trace yes sheets rows count in_rows;
        rows_rest = ap (drop (row_bytes trace * count)) (sym rows_all) ∙ rest-kept trace yes sheets rows count (row_bytes trace * count) in_rows (omega arith);
        answers_long = ap length (sym answers-all) ∙ answers_long trace yes sheets answers count;
        answers_rest = λ k h. ap (λ (l : List ℕ). get_or l k 0) (sym answers-all) ∙ answers_rest trace yes sheets answers count k h;
      }
