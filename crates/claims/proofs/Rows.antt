-- What an accepted gear sheet leaves in the buffer: two bytes a second from the start on, every other byte as it was, the gears that the corrections left, and
-- the clutch of each second as its phase, speed and gear ask. A refusal leaves the whole buffer. Assumes nothing.
use mathlib.Core.Path.{◌≡◌, sym, ap, ◌∙◌}
use mathlib.Core.List.{List, ◌++◌}
use Prim.Native.Nat.{ℕ, ◌+◌, ◌*◌, ◌≤◌, ◌<◌}
use native.Mathlib.Omega.{arith}
use lib.ListN.{length, take, drop, length-append, length-drop}
use lib.Seq.{length-take-le, take_at, drop_at, drop-drop}
use Rattle.std.specs.Prelude.{Ok, Err}
use Rattle.refusal.specs.Judging.{Judged, if_accepted}
use Rattle.refusal.specs.declared.Refusal.{Refusal}
use Rattle.refusal.proofs.Judging.{then-holds}
use Rattle.house.specs.House.{count_of, flags_at, speed_at}
use Rattle.vehicle.specs.declared.VehicleSheet.{VehicleSheet}
use Rattle.shift.specs.Speeds.{shift_of}
use Rattle.row.specs.Row.{gear_at, clutch_at}
use Rattle.phase.specs.Phase.{first_row}
use Rattle.phase.proofs.Stops.{first-length}
use Rattle.clutch.specs.Clutch.{clutch_of}
use Rattle.clutch.proofs.Clutch.{clutch-length, clutch-gear, clutch-at, clutch-of-most}
use Rattle.runs.proofs.Frame.{corrected-length}
use Rattle.own.specs.Own.{judge_close}
use Rattle.gear.specs.Sheet.{judge_sheet, gear_answer, own_of, with_row, row_of, gear_buffer}
use Rattle.gear.proofs.Sheet.{Sound, sheet-sound, buffer-refused}
use Rattle.claims.specs.Rows.{finished_row, corrected_row}

-- ---- the row by itself
module _ (v : VehicleSheet) (trace : List ℕ) (n : ℕ) where
  corrected-row-length : length (corrected_row v trace n) ≡ 2 * n
  corrected-row-length = corrected-length trace (first_row (own_of v trace) trace n) n ∙ first-length (own_of v trace) trace n

  -- two bytes a second
  pub row-length : length (row_of v trace n) ≡ 2 * n
  unfolding row_of
  row-length = clutch-length _ (corrected_row v trace n) n ∙ corrected-row-length

  -- the gears stay as the corrections left them, whatever the rule of the clutch
  pub row-gear : (k : ℕ) → gear_at (row_of v trace n) k ≡ gear_at (corrected_row v trace n) k
  unfolding row_of
  row-gear k = clutch-gear _ (corrected_row v trace n) n k

  row-clutch : (k : ℕ) → k < n → clutch_at (row_of v trace n) k ≡ clutch_of v (flags_at trace k) (speed_at trace k) (gear_at (row_of v trace n) k)
  unfolding row_of
  row-clutch k l = let long = corrected-row-length in clutch-at _ (corrected_row v trace n) n k l (omega arith)

-- ---- in the buffer
module _ (trace : List ℕ) (v : VehicleSheet) (buffer : List ℕ) (start : ℕ) where
  -- "buffers stay as lent"
  pub refused-kept : {refusal : Refusal} → gear_answer trace v (length buffer) start ≡ Err refusal → gear_buffer trace v buffer start ≡ buffer
  refused-kept e = sym (buffer-refused trace v buffer start e)

  module _ (accepted : gear_answer trace v (length buffer) start ≡ Ok tt) where
    pub accepted-sound : Sound trace v (length buffer) start
    unfolding gear_answer
    accepted-sound =
        sheet-sound trace v (length buffer) start
        (then-holds (judge_sheet trace v (length buffer) start) (judge_close (shift_of v) trace 0 (count_of trace)) accepted).0

    written : gear_buffer trace v buffer start ≡ take start buffer ++ with_row v trace (count_of trace) (drop start buffer)
    unfolding gear_buffer
    written =
        ap (λ (j : Judged). if_accepted j (take start buffer ++ with_row v trace (count_of trace) (drop start buffer)) buffer) accepted

    front_length : length (take start buffer) ≡ start
    front_length = length-take-le start buffer accepted-sound.from

    from_start : drop start (gear_buffer trace v buffer start) ≡ with_row v trace (count_of trace) (drop start buffer)
    from_start = ap (drop start) written ∙ drop_at (take start buffer) _ start front_length

    -- the row is that of the sheet
    pub row-held : finished_row trace v buffer start ≡ row_of v trace (count_of trace)
    row-held =
        ap (take (2 * count_of trace)) from_start
        ∙ take_at (row_of v trace (count_of trace)) _ (2 * count_of trace) (row-length v trace (count_of trace))

    -- every byte before the start and behind the row
    pub outside_kept : (take start (gear_buffer trace v buffer start) ≡ take start buffer)
        × (drop (start + 2 * count_of trace) (gear_buffer trace v buffer start) ≡ drop (start + 2 * count_of trace) buffer)
    outside_kept = (
      ap (take start) written ∙ take_at (take start buffer) _ start front_length,
      sym (drop-drop (2 * count_of trace) start (gear_buffer trace v buffer start))
          ∙ ap (drop (2 * count_of trace)) from_start
          ∙ drop_at (row_of v trace (count_of trace)) _ (2 * count_of trace) (row-length v trace (count_of trace))
          ∙ drop-drop (2 * count_of trace) start buffer,
    )

    -- no byte more or less
    pub length-kept : length (gear_buffer trace v buffer start) ≡ length buffer
    length-kept =
        let row = row_of v trace (count_of trace) in
        let front : length (take start buffer) ≡ start = front_length in
        let long : length row ≡ 2 * count_of trace = row-length v trace (count_of trace) in
        let sound : Sound trace v (length buffer) start = accepted-sound in
        ap length written ∙ simp (length-append, length-drop) (omega (arith, sound.from, sound.fits))

    -- the gear of each second
    pub gear-is : (k : ℕ) → gear_at (finished_row trace v buffer start) k ≡ gear_at (corrected_row v trace (count_of trace)) k
    gear-is k = ap (λ (row : List ℕ). gear_at row k) row-held ∙ row-gear v trace (count_of trace) k

    -- the clutch of each second, by its phase, its speed and the gear that the row has there
    pub clutch-is : (k : ℕ) → k < count_of trace → let row = finished_row trace v buffer start in
        clutch_at row k ≡ clutch_of v (flags_at trace k) (speed_at trace k) (gear_at row k)
    clutch-is k l = rw row-held (row-clutch v trace (count_of trace) k l)

    -- in or out
    pub clutch-bit : (k : ℕ) → k < count_of trace → clutch_at (finished_row trace v buffer start) k ≤ 1
    clutch-bit k l =
        omega (arith, clutch-is k l, clutch-of-most v (flags_at trace k) (speed_at trace k) (gear_at (finished_row trace v buffer start) k))
