-- The versions of a trace (02, M-109): version 2 leaves corrections 2 and 3 nothing to act on; a version 1 trace without marks has the row and the refusals of the
-- version 2 trace of its seconds; and what the writer wrote is read as it was meant. Assumes nothing.
use mathlib.Core.Path.{◌≡◌, sym, ap, ◌∙◌}
use mathlib.Core.Bool.{Bool, true, false, cond, ◌&&◌}
use mathlib.Core.List.{List, ◌++◌}
use Prim.Native.Nat.{ℕ, ◌*◌, ◌%◌, ◌<◌}
use native.Mathlib.Omega.{arith}
use lib.ListN.{length, take, drop}
use lib.Dec.{eqb}
use borrow.Author.Tests.{le-leb}
use Rattle.std.specs.Prelude.{Ok}
use Rattle.refusal.specs.declared.Refusal.TheVariants.{Count}
use Rattle.refusal.specs.Judging.{and_then, if_accepted}
use Rattle.refusal.proofs.Judging.{checked-holds, then-holds}
use Rattle.refusal.proofs.Ranges.{both, range}
use Rattle.house.specs.House.{headed, version_of, allows, count_of, speed_at, flags_at, zero_at, marked, second_good}
use Rattle.house.proofs.Versions.{allowed-second, good-second, parts-good, phase-unmarked}
use Rattle.house.proofs.Written.{file-length, file-version, file-count, file-speed, file-flags, file-zero}
use Rattle.trace.specs.Judging.{countable, judge_trace}
use Rattle.trace.specs.Versions.{in_version2, Plain}
use Rattle.trace.proofs.Sound.{seconds-good, accepted-by}
use Rattle.trace.proofs.Versions.{flags-same, speeds-same, count_same, judged-same, marks-same}
use Rattle.vehicle.specs.declared.VehicleSheet.{VehicleSheet}
use Rattle.vehicle.specs.Sheet.{judge_vehicle}
use Rattle.shift.specs.Speeds.{shift_of}
use Rattle.row.proofs.Unmarked.{first, shift, pass-idle}
use Rattle.runs.proofs.Unmarked.{unmarked-corrected}
use Rattle.own.specs.Own.{judge_close}
use Rattle.gear.specs.Sheet.{judge_room, judge_sheet, gear_answer, gear_buffer, row_of}
use Rattle.gear.proofs.Alike.{Alike, row-alike, close-alike}
use Rattle.writer.specs.Writer as writing
use Rattle.writer.specs.Writer.{speed_in, phase_in, count_in, counted, write_answer, written}
use Rattle.writer.proofs.Sound.{speeds-few, phases-few}
use Rattle.claims.specs.Versions.{Idle, SameSheet, ReadBack}

-- ---- version 2
-- an accepted one has no mark
second-unmarked : (trace : List ℕ) → judge_trace trace ≡ Ok tt → version_of trace ≡ 2 → (k : ℕ) → k < count_of trace → marked (flags_at trace k) ≡ false
second-unmarked trace e two k l =
    let good = good-second (version_of trace) (speed_at trace k) (flags_at trace k) (zero_at trace k) (seconds-good trace e k l) in
    let allowed = ap (λ (version : ℕ). allows version (flags_at trace k)) (sym two) ∙ good.1 in
    phase-unmarked (flags_at trace k) (allowed-second (flags_at trace k) allowed)

pub idle : (trace : List ℕ) → judge_trace trace ≡ Ok tt → version_of trace ≡ 2 → Idle trace
idle trace e two =
    let none = second-unmarked trace e two in
    record {
      second = λ row. pass-idle first trace row (count_of trace) none;
      third = λ row. pass-idle shift trace row (count_of trace) none;
      others = λ row. unmarked-corrected trace row (count_of trace) none;
    }

-- ---- version 1 without marks
module _ (trace : List ℕ) (plain : Plain trace) where
  abbrev other : List ℕ
  other = in_version2 trace

  alike : Alike other trace
  alike = record { flags = flags-same trace plain; speeds = speeds-same trace plain }

  sheet-same : (v : VehicleSheet) (room start : ℕ) → judge_sheet other v room start ≡ judge_sheet trace v room start
  unfolding judge_sheet
  sheet-same v room start =
      (λ i. and_then (judged-same trace plain i)
      (and_then (judge_vehicle v) (and_then (cond (eqb v.rules 2) (marks-same trace plain i) (Ok tt)) (judge_room (count_same trace plain i) room start))))

  answer-same : (v : VehicleSheet) (room start : ℕ) → gear_answer other v room start ≡ gear_answer trace v room start
  unfolding gear_answer
  answer-same v room start =
      (λ i. and_then (sheet-same v room start i) (judge_close (shift_of v) other 0 (count_same trace plain i)))
      ∙ ap (and_then (judge_sheet trace v room start)) (close-alike alike v (count_of trace))

  buffer-same : (v : VehicleSheet) (buffer : List ℕ) (start : ℕ) → gear_buffer other v buffer start ≡ gear_buffer trace v buffer start
  unfolding gear_buffer
  buffer-same v buffer start =
      let row = ap (row_of v other) (count_same trace plain) ∙ row-alike alike v (count_of trace) in
      (λ i. if_accepted (answer-same v (length buffer) start i) (take start buffer ++ (row i ++ drop (2 * count_same trace plain i) (drop start buffer))) buffer)

  pub same-sheet : SameSheet trace
  same-sheet = record { answer = answer-same; buffer = buffer-same }

-- ---- the writer
module _ (seconds : List ℕ) (room : ℕ) (e : write_answer seconds room ≡ Ok tt) where
  abbrev n : ℕ
  n = count_in seconds

  past : (counted seconds ≡ true) × (and_then (writing.judge_seconds seconds 0 n) (writing.judge_room n room) ≡ Ok tt)
  unfolding write_answer
  past = checked-holds (counted seconds) Count (and_then (writing.judge_seconds seconds 0 n) (writing.judge_room n room)) e

  taken : writing.judge_seconds seconds 0 n ≡ Ok tt
  taken = (then-holds (writing.judge_seconds seconds 0 n) (writing.judge_room n room) past.1).0

  in-range : countable n ≡ true
  in-range = (both (eqb (length seconds % 2) 0) (countable n) past.0).1

  good : (k : ℕ) → k < n → second_good (written seconds) k ≡ true
  good k l =
      let slow = speeds-few seconds n taken k l in
      let speed = file-speed 2 (speed_in seconds) (phase_in seconds) n k l in
      parts-good (speed_at (written seconds) k) (zero_at (written seconds) k) (omega (arith, slow, speed))
      (ap (allows 2) (file-flags 2 (speed_in seconds) (phase_in seconds) n k l) ∙ le-leb (phase_in seconds k) 3 (phases-few seconds n taken k l))
      (file-zero 2 (speed_in seconds) (phase_in seconds) n k l)

  file-accepted : judge_trace (written seconds) ≡ Ok tt
  file-accepted =
      let long = file-length 2 (speed_in seconds) (phase_in seconds) n in
      let count = file-count 2 (speed_in seconds) (phase_in seconds) n in
      let head : headed (written seconds) ≡ true = ap (λ (b : Bool). b && true) (le-leb 8 (length (written seconds)) (omega (arith, long))) in
      let counts = range 1 2000 n in-range in
      accepted-by (written seconds) head (omega (arith, count, counts.0)) (omega (arith, count, counts.1)) (omega (arith, count, long)) (λ k l. good k (omega (arith, count)))

  pub read_back : ReadBack seconds
  read_back =
      record {
        accepted = file-accepted;
        version = file-version 2 (speed_in seconds) (phase_in seconds) n;
        count = file-count 2 (speed_in seconds) (phase_in seconds) n;
        speeds = λ k l. file-speed 2 (speed_in seconds) (phase_in seconds) n k l;
        phases = λ k l. file-flags 2 (speed_in seconds) (phase_in seconds) n k l;
      }
