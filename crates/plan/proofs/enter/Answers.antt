-- `enter`: at each return the checks before it hold.
use Rattle.std.proofs.Common.{◌≡◌, ◌≤◌, ◌∙◌, sym, ap, subst, List, ℕ, length, arith}
use Rattle.std.proofs.lemmas.Result.{err_from_is_err_and}
use Rattle.std.specs.Prelude.{Ok}
use Rattle.refusal.specs.Judging.{Judged, and_then}
use Rattle.trace.specs.Judging.{judge_marks}
use Rattle.vehicle.specs.declared.VehicleSheet.{VehicleSheet}
use Rattle.vehicle.specs.Sheet.{Sound}
use Rattle.shift.specs.Speeds.{shift_of}
use Rattle.shift.proofs.Sides.{shift-ranges}
use Rattle.tenths.specs.Least.{tenths_of}
use Rattle.own.specs.Own.{judge_close}
use Rattle.own.specs.ByTenths.{judge_marked}
use Rattle.own.proofs.ByTenths.{marked-same}
use Rattle.plan.specs.Lanes.{Read, sheet_answer, vehicle_answer, Entered}
use Rattle.plan.proofs.Entering.{entered-refused, entered-accepted}
use Rattle.plan.proofs.enter.Goals as goal

module _ (trace : List ℕ) (v : VehicleSheet) (n : ℕ) {marks : Judged} (marked : marks ≡ judge_marks trace 0 n) where
  -- what the answer is, by what is said of the sheet
  answer-by : {judged : Judged} → sheet_answer v marks ≡ judged → vehicle_answer trace v n ≡ and_then judged (judge_close (shift_of v) trace 0 n)
  unfolding vehicle_answer
  answer-by is = ap (λ (j : Judged). and_then j (judge_close (shift_of v) trace 0 n)) (ap (sheet_answer v) (sym marked) ∙ is)

  -- and by what is said of its shift speeds, where the sheet is accepted
  close-by : Read trace n → Sound v → sheet_answer v marks ≡ Ok tt → {close : Judged} → close ≡ judge_marked (tenths_of (shift_of v)) trace n → close ≡ vehicle_answer trace v n
  close-by read sound is found =
      found ∙ marked-same sound trace n (record { ranges = shift-ranges sound; lasts = read.lasts; few = read.few; speeds = read.speeds }) ∙ sym (answer-by is)

pub returns-in_err-vehicle : goal.returns-in_err-vehicle
returns-in_err-vehicle c =
    let a = c.args in
    let wide : 288 ≤ length a.tables.now = omega arith in
    let p = err_from_is_err_and c.from_residual.result c.from_residual.ensures.1 in
    rw (p.1, p.2) (sym (answer-by a.trace.bytes.now a.v a.trace.seconds c.requires.1 c.in_err-vehicle.ensures), entered-refused a.tables.now a.j c.requires.2 wide a.v _)

pub returns-in_err-judge_marked : goal.returns-in_err-judge_marked
returns-in_err-judge_marked c =
    let a = c.args in
    let taken = c.in_ok-vehicle.ensures in
    let wide : 288 ≤ length a.tables.now = omega arith in
    let p = err_from_is_err_and c.from_residual-in_err-judge_marked.result c.from_residual-in_err-judge_marked.ensures.1 in
    let sound = subst Sound taken.1 c.in_ok-vehicle.vehicle.sound in
    rw (p.1, p.2) (
      close-by a.trace.bytes.now a.v a.trace.seconds c.requires.1 c.requires.0 sound taken.0 (rw (c.of_vehicle-t.ensures, taken.1) at c.in_err-judge_marked.ensures),
      entered-refused a.tables.now a.j c.requires.2 wide a.v _,
    )

pub returns : goal.returns
returns c =
    let a = c.args in
    let taken = c.in_ok-vehicle.ensures in
    let wide : 288 ≤ length a.tables.now = omega arith in
    let sound = subst Sound taken.1 c.in_ok-vehicle.vehicle.sound in
    let answer = close-by a.trace.bytes.now a.v a.trace.seconds c.requires.1 c.requires.0 sound taken.0 (rw (c.of_vehicle-t.ensures, taken.1) at c.in_ok-judge_marked.ensures) in
    let table = rw (c.of_vehicle-t.ensures, taken.1) at c.put_table.ensures in
    (answer, subst (λ (tables : List ℕ). Entered a.v (Ok tt) a.tables.now tables a.j) (sym table) (entered-accepted a.tables.now a.j c.requires.2 wide a.v sound))
