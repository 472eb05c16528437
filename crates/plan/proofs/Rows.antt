-- From the tables through the corrections to the clutch: every vehicle's lane has its row. Assumes nothing.
use mathlib.Core.Path.{◌≡◌, refl, sym, ap, ◌∙◌}
use mathlib.Core.Bool.{Bool, true, false, cond}
use mathlib.Core.List.{List}
use Prim.Native.Nat.{ℕ, ◌+◌, ◌-◌, ◌*◌, ◌/◌, ◌%◌, ◌<◌, ◌≤◌}
use native.Mathlib.Omega.{arith}
use lib.Dec.{ltb}
use lib.ListN.{length, get_or}
use Rattle.walk.proofs.Pairs.{pairs-are}
use Rattle.house.specs.House.{flags_at, speed_at, stop, stop_at, acceleration}
use Rattle.vehicle.specs.declared.VehicleSheet.{VehicleSheet}
use Rattle.shift.specs.Speeds.{shift_of, Own}
use Rattle.tenths.specs.Least.{tenths_of}
use Rattle.tenths.specs.Choice.{own_by_tenths}
use Rattle.own.specs.ByTenths.{second_by_tenths}
use Rattle.own.proofs.ByTenths.{second-by-tenths}
use Rattle.phase.specs.Phase.{stop_end, stop_gear, first_row}
use Rattle.phase.proofs.Stops.{first-length}
use Rattle.row.specs.Row.{gear_at}
use Rattle.row.specs.Corrections.{five_row}
use Rattle.row.proofs.Ranges.{least-range}
use Rattle.runs.specs.Corrected.{corrected}
use Rattle.clutch.specs.Clutch.{clutch_by}
use Rattle.clutch.proofs.Clutch.{clutch-length, clutch-gear, clutch-at, clutch-of-most}
use Rattle.runs.proofs.Frame.{corrected-length}
use Rattle.gear.specs.Sheet.{own_of, row_of}
use Rattle.gear.proofs.Rows.{first-same}
use Rattle.driven.proofs.Corrected.{five-fit, corrected-fit}
use Rattle.lanes.specs.Lanes.{lane_at, Holds}
use Rattle.lanes.specs.Corrections.{Corrects}
use Rattle.lane_own.specs.Own.{first_by_tenths, FirstRows}
use Rattle.lane_runs.specs.Runs.{Smooths}
use Rattle.lane_clutch.specs.Clutch.{Geared, Clutches}
use Rattle.plan.specs.Lanes.{Read, Tabled, lane_row, Finishes}

module _ (trace : List ℕ) (n : ℕ) (read : Read trace n) (v : VehicleSheet) (tables : List ℕ) (j : ℕ) (few : j < 16) (table : Tabled v tables j) where
  abbrev first : List ℕ
  first = first_row (own_of v trace) trace n

  abbrev final : List ℕ
  final = corrected trace first n

  enough : 3 ≤ (shift_of v).gears
  unfolding shift_of
  enough = table.sound.ranged.gears.0

  -- by tenths as by the ends
  own_is : (k : ℕ) → k < n → stop (flags_at trace k) ≡ false
      → (own_by_tenths (tenths_of (shift_of v)) (acceleration (flags_at trace k)) (speed_at trace k)).gear ≡ own_of v trace k
  unfolding second_by_tenths
  own_is k l drive =
      let by = own_by_tenths (tenths_of (shift_of v)) (acceleration (flags_at trace k)) (speed_at trace k) in
      sym (ap (λ (b : Bool). (cond b (record { gear = 0; close = false }) by).gear) drive)
      ∙ ap (λ (o : Own). o.gear) (second-by-tenths table.sound (flags_at trace k) (speed_at trace k) (read.speeds k l))

  first-is : first_by_tenths (tenths_of (shift_of v)) trace n ≡ first
  first-is = first-same _ (own_of v trace) trace n own_is

  -- no second outside stops is in neutral after the fifth correction, and after the sixth every gear is one of the vehicle's
  no-neutral : (k : ℕ) → k < n → stop_at trace k ≡ false → gear_at (five_row trace first n) k ≡ 0 → ⊥
  no-neutral k l drive e =
      let low = (((five-fit (shift_of v) enough trace n).second k l).drives drive).low in
      let one = (least-range (flags_at trace k)).low in
      omega arith

  stop-small : (left : ℕ) → stop_gear left ≤ 1
  stop-small left = go (ltb 5 left)
    where
      go : (b : Bool) → cond b 0 1 ≤ 1
      go true = omega arith
      go false = omega arith

  high : (k : ℕ) → k < n → gear_at final k ≤ v.gears
  unfolding shift_of
  high k l = go (stop_at trace k) refl
    where
      go : (b : Bool) → stop_at trace k ≡ b → gear_at final k ≤ v.gears
      go true halt =
          let is = ((corrected-fit (shift_of v) enough trace n).second k l).halts halt in
          let one = stop-small (stop_end trace n k - k) in
          let some = enough in
          omega arith
      go false drive = (((corrected-fit (shift_of v) enough trace n).second k l).drives drive).high

  geared : Geared v trace final n
  geared = record {
    high = high;
    some = λ k l drive.
        let low = (((corrected-fit (shift_of v) enough trace n).second k l).drives drive).low in
        let one = (least-range (flags_at trace k)).low in
        omega arith;
  }

  -- ---- the lane's bytes
  module _ (lanes lanes₁ lanes₂ lanes₃ lanes₄ : List ℕ) (one : FirstRows trace tables lanes lanes₁ n) (five : Corrects trace lanes₁ lanes₂ n)
      (six : Smooths trace lanes₂ lanes₃ n) (last : Clutches trace tables lanes₃ lanes₄ n) where
    holds₁ : Holds lanes₁ first n j
    holds₁ k l = one.lane j few (tenths_of (shift_of v)) table.tenths k l ∙ ap (λ (row : List ℕ). gear_at row k) first-is

    room₁ : 2 * n ≤ length first
    room₁ = omega (arith, first-length (own_of v trace) trace n)

    holds₃ : Holds lanes₃ final n j
    holds₃ = six.lane j few (five_row trace first n) (five-fit (shift_of v) enough trace n).long (five.lane j few first room₁ holds₁) no-neutral

    byte-is : (k : ℕ) → k < n → lane_at lanes₄ j k ≡ gear_at final k + 128 * clutch_by v trace k (gear_at final k)
    byte-is = last.lane j few v table.sound table.limits final geared holds₃

    bit : (k : ℕ) → clutch_by v trace k (gear_at final k) ≤ 1
    bit k = clutch-of-most v (flags_at trace k) (speed_at trace k) (gear_at final k)

    room-final : 2 * n ≤ length final
    room-final = (corrected-fit (shift_of v) enough trace n).long

    row-long : length (row_of v trace n) ≡ 2 * n
    unfolding row_of
    row-long = clutch-length (clutch_by v trace) final n ∙ corrected-length trace first n ∙ first-length (own_of v trace) trace n

    gear-is : (k : ℕ) → k < n → get_or (row_of v trace n) (2 * k) 0 ≡ lane_at lanes₄ j k % 128
    unfolding row_of
    gear-is k l =
        let is = byte-is k l in
        let out = bit k in
        let most = high k l in
        let eight = table.sound.ranged.gears.1 in
        let same : lane_at lanes₄ j k % 128 ≡ gear_at final k = omega arith in
        clutch-gear (clutch_by v trace) final n k ∙ sym same

    clutch-is : (k : ℕ) → k < n → get_or (row_of v trace n) (2 * k + 1) 0 ≡ lane_at lanes₄ j k / 128
    unfolding row_of
    clutch-is k l =
        let is = byte-is k l in
        let out = bit k in
        let most = high k l in
        let eight = table.sound.ranged.gears.1 in
        let same : lane_at lanes₄ j k / 128 ≡ clutch_by v trace k (gear_at final k) = omega arith in
        clutch-at (clutch_by v trace) final n k l room-final ∙ ap (clutch_by v trace k) (clutch-gear (clutch_by v trace) final n k) ∙ sym same

    pub lane-row : lane_row lanes₄ j n ≡ row_of v trace n
    lane-row = sym (pairs-are (λ k. lane_at lanes₄ j k % 128) (λ k. lane_at lanes₄ j k / 128) (row_of v trace n) n row-long gear-is clutch-is)

pub finishes : (trace : List ℕ) (n : ℕ) → Read trace n → (tables lanes lanes₁ lanes₂ lanes₃ lanes₄ : List ℕ) → FirstRows trace tables lanes lanes₁ n → Corrects trace lanes₁ lanes₂ n
    → Smooths trace lanes₂ lanes₃ n → Clutches trace tables lanes₃ lanes₄ n → Finishes trace tables lanes lanes₄ n
finishes trace n read tables lanes lanes₁ lanes₂ lanes₃ lanes₄ one five six last = record {
  long = last.long ∙ six.long ∙ five.long ∙ one.long;
  lane = λ j few v table. lane-row trace n read v tables j few table lanes lanes₁ lanes₂ lanes₃ lanes₄ one five six last;
}
