-- The gear sheet (01, Trace to Corrections): from a trace and a vehicle sheet to the row in a lent buffer, or to a refusal that leaves it as it was.
use Rattle.std.specs.Prelude.{cond, ◌&&◌, List, ◌++◌, ℕ, ◌-◌, ◌*◌, length, take, drop, eqb, leb, ◌≡◌, Result, Ok, Err}
use Rattle.std.specs.Borrow.{Bor}
use Rattle.refusal.specs.Judging.{Judged, checked, and_then, if_accepted}
use Rattle.refusal.specs.declared.Refusal.{Refusal}
use Rattle.refusal.specs.declared.Refusal.TheVariants.{Room}
use Rattle.house.specs.House.{count_of}
use Rattle.trace.specs.Judging.{judge_trace, judge_marks}
use Rattle.vehicle.specs.declared.VehicleSheet.{VehicleSheet}
use Rattle.vehicle.specs.Sheet.{judge_vehicle}
use Rattle.shift.specs.Speeds.{shift_of}
use Rattle.phase.specs.Phase.{first_row}
use Rattle.runs.specs.Corrected.{corrected}
use Rattle.clutch.specs.Clutch.{clutch_by, with_clutch}
use Rattle.own.specs.Own.{own_at, judge_close}
use Rattle.gear.specs.declared.Inputs.{Inputs}

-- what becomes of a row before corrections: corrected, and then with its clutch
abbrev pub finished : VehicleSheet → List ℕ → List ℕ → ℕ → List ℕ
finished v trace row n = with_clutch (clutch_by v trace) (corrected trace row n) n

-- the row from the gears outside stop
abbrev pub row_from : VehicleSheet → (ℕ → ℕ) → List ℕ → ℕ → List ℕ
row_from v own trace n = finished v trace (first_row own trace n) n

-- the gear of second k outside stop, by the shift speeds of the vehicle
abbrev pub own_of : VehicleSheet → List ℕ → ℕ → ℕ
own_of v trace k = (own_at (shift_of v) trace k).gear

unfoldable pub row_of : VehicleSheet → List ℕ → ℕ → List ℕ
row_of v trace n = row_from v (own_of v trace) trace n

-- 20, "directly after 7": "Under set 2 a version 1 trace with any such mark is refused, never silently cleared" (02, M-109)
abbrev pub marks_by : VehicleSheet → List ℕ → ℕ → Judged
marks_by v trace n = cond (eqb v.rules 2) (judge_marks trace 0 n) (Ok tt)

-- 8: "start past the buffer, or under 2 x count bytes there"
abbrev pub judge_room : ℕ → ℕ → ℕ → Judged
judge_room count room start = checked (leb start room && leb (2 * count) (room - start)) Room (Ok tt)

-- 1 to 7, 20 and 8
unfoldable pub judge_sheet : List ℕ → VehicleSheet → ℕ → ℕ → Judged
judge_sheet trace v room start =
    and_then (judge_trace trace) (and_then (judge_vehicle v) (and_then (marks_by v trace (count_of trace)) (judge_room (count_of trace) room start)))

-- what is handed on of a lent trace and a vehicle sheet that were judged so: the trace itself with the seconds of its head and the vehicle, or the refusal
abbrev pub Taken : Bor (List ℕ) → VehicleSheet → Judged → Result Inputs Refusal → Type 0
Taken trace v judged (Ok taken) = (judged ≡ Ok tt) × (taken.trace.bytes ≡ trace) × (taken.trace.seconds ≡ count_of trace.now) × (taken.v.sheet ≡ v)
Taken trace v judged (Err refusal) = judged ≡ Err refusal

-- and 9
unfoldable pub gear_answer : List ℕ → VehicleSheet → ℕ → ℕ → Judged
gear_answer trace v room start =
    and_then (judge_sheet trace v room start) (judge_close (shift_of v) trace 0 (count_of trace))

-- a part with the row at its front; "bytes .. after the last second written stay"
abbrev pub with_row : VehicleSheet → List ℕ → ℕ → List ℕ → List ℕ
with_row v trace n part = row_of v trace n ++ drop (2 * n) part

-- the buffer at the end: "Bytes before the start and after the last second written stay"
unfoldable pub gear_buffer : List ℕ → VehicleSheet → List ℕ → ℕ → List ℕ
gear_buffer trace v buffer start =
    if_accepted (gear_answer trace v (length buffer) start)
    (take start buffer ++ with_row v trace (count_of trace) (drop start buffer))
    buffer
