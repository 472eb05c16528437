-- What the accepted stages of the gear sheet tell, and the answer and the buffer by their cases. Assumes nothing.
use mathlib.Core.Path.{◌≡◌, refl, sym, ap, ◌∙◌}
use mathlib.Core.List.{List, ◌++◌}
use Prim.Native.Nat.{ℕ, ◌-◌, ◌*◌, ◌≤◌}
use native.Mathlib.Omega.{arith}
use lib.ListN.{length, take, drop, take-append-drop}
use lib.Dec.{leb}
use borrow.Author.Tests.{leb-true}
use Rattle.std.specs.Prelude.{Ok, Err}
use Rattle.refusal.specs.Judging.{Judged, and_then, if_accepted}
use Rattle.refusal.specs.declared.Refusal.{Refusal}
use Rattle.refusal.specs.declared.Refusal.TheVariants.{Room}
use Rattle.refusal.proofs.Ranges.{both}
use Rattle.refusal.proofs.Judging.{checked-holds, then-holds}
use Rattle.house.specs.House.{count_of}
use Rattle.trace.specs.Judging.{judge_trace, Sound as SoundTrace}
use Rattle.trace.proofs.Sound.{accepted-sound as trace-sound}
use Rattle.vehicle.specs.declared.VehicleSheet.{VehicleSheet}
use Rattle.vehicle.specs.Sheet.{judge_vehicle, Sound as SoundVehicle}
use Rattle.vehicle.proofs.Sound.{accepted-sound as vehicle-sound}
use Rattle.shift.specs.Speeds.{shift_of}
use Rattle.shift.proofs.Sides.{shift-ranges}
use Rattle.own.specs.Own.{judge_close, Ready}
use Rattle.gear.specs.Sheet.{marks_by, judge_room, judge_sheet, gear_answer, with_row, gear_buffer}

pub record Sound (trace : List ℕ) (v : VehicleSheet) (room start : ℕ) : Type 0 where
  pub of_trace : SoundTrace trace
  pub of_vehicle : SoundVehicle v
  pub from : start ≤ room
  pub fits : 2 * count_of trace ≤ room - start

pub sheet-sound : (trace : List ℕ) (v : VehicleSheet) (room start : ℕ) → judge_sheet trace v room start ≡ Ok tt → Sound trace v room start
unfolding judge_sheet
sheet-sound trace v room start e =
    let last = judge_room (count_of trace) room start in
    let marks = marks_by v trace (count_of trace) in
    let t = then-holds (judge_trace trace) (and_then (judge_vehicle v) (and_then marks last)) e in
    let w = then-holds (judge_vehicle v) (and_then marks last) t.1 in
    let m = then-holds marks last w.1 in
    let here = both (leb start room) (leb (2 * count_of trace) (room - start)) (checked-holds _ Room (Ok tt) m.1).0 in
    record {
      of_trace = trace-sound trace t.0;
      of_vehicle = vehicle-sound v w.0;
      from = leb-true start room here.0;
      fits = leb-true (2 * count_of trace) (room - start) here.1;
    }

pub sheet-ready : {trace : List ℕ} {v : VehicleSheet} {room start : ℕ} → Sound trace v room start → Ready (shift_of v) trace (count_of trace)
sheet-ready s =
    let t = s.of_trace in
    record { ranges = shift-ranges s.of_vehicle; lasts = omega (arith, t.exact); few = t.few; speeds = t.speeds }

module _ (trace : List ℕ) (v : VehicleSheet) (buffer : List ℕ) (start : ℕ) where
  -- a refusal before 9 is the answer; past them the comparisons decide
  pub answer-by : {j : Judged} → judge_sheet trace v (length buffer) start ≡ j
      → gear_answer trace v (length buffer) start ≡ and_then j (judge_close (shift_of v) trace 0 (count_of trace))
  unfolding gear_answer
  answer-by e = ap (λ (j : Judged). and_then j (judge_close (shift_of v) trace 0 (count_of trace))) e

  -- the part comes back as it went, or with the row at its front
  back_by : (j : Judged) (new : List ℕ) → take start buffer ++ if_accepted j new (drop start buffer) ≡ if_accepted j (take start buffer ++ new) buffer
  back_by (Ok _) new = refl
  back_by (Err refusal) new = take-append-drop start buffer

  pub buffer-refused : {refusal : Refusal} → gear_answer trace v (length buffer) start ≡ Err refusal → buffer ≡ gear_buffer trace v buffer start
  unfolding gear_buffer
  buffer-refused e = sym (ap (λ (j : Judged). if_accepted j (take start buffer ++ with_row v trace (count_of trace) (drop start buffer)) buffer) e)

  pub buffer-back : {j : Judged} → j ≡ gear_answer trace v (length buffer) start
      → take start buffer ++ if_accepted j (with_row v trace (count_of trace) (drop start buffer)) (drop start buffer) ≡ gear_buffer trace v buffer start
  unfolding gear_buffer
  buffer-back {j} e =
      let new = with_row v trace (count_of trace) (drop start buffer) in
      back_by j new ∙ ap (λ (j : Judged). if_accepted j (take start buffer ++ new) buffer) e
