-- What specs/Statements.antt promises, of every accepted vehicle and every trace that is not refused. Assumes nothing.
use mathlib.Core.Path.{◌≡◌, sym, subst, ◌∙◌}
use mathlib.Core.List.{List}
use Prim.Native.Nat.{ℕ, ◌+◌, ◌-◌, ◌*◌, ◌^◌, ◌≤◌, ◌<◌}
use native.Mathlib.Omega.{arith}
use lib.Dec.{lit≤}
use Rattle.arith.specs.Fraction.{Fraction}
use Rattle.arith.proofs.Parts.{zs}
use Rattle.arith.proofs.Width.{wider-narrow}
use Rattle.std.specs.Prelude.{Ok}
use Rattle.refusal.proofs.Judging.{then-holds}
use Rattle.house.specs.House.{count_of}
use Rattle.vehicle.specs.declared.VehicleSheet.{VehicleSheet}
use Rattle.vehicle.specs.Sheet.{judge_vehicle, Sound}
use Rattle.vehicle.proofs.Sound.{accepted-sound}
use Rattle.shift.specs.Exponential.{exact_term}
use Rattle.shift.specs.Speeds.{shift_of}
use Rattle.shift.proofs.ExactTerms.{den}
use Rattle.shift.proofs.Narrow.{exponential-narrow}
use Rattle.shift.proofs.Sides.{exponent}
use Rattle.own.specs.Own.{judge_close}
use Rattle.gear.specs.Sheet.{judge_sheet, gear_answer, row_of}
use Rattle.gear.proofs.Sheet.{sheet-sound}
use Rattle.sums.specs.Sums.{exact_power}
use Rattle.sums.specs.Rows.{longer_row}
use Rattle.sums.specs.Statements.{shortest, BetweenEnds, TrueEnds, TrueSpeed, TrueRow}
use Rattle.sums.proofs.Enclosed.{sum-enclosed}
use Rattle.sums.proofs.Tail.{rest-small}
use Rattle.sums.proofs.Speeds.{upshift-true}
use Rattle.sums.proofs.Rows.{row-exactly}

sound-ends : {v : VehicleSheet} → Sound v → TrueEnds v
unfolding exact_term
sound-ends {v} sound =
    let x = exponent sound in
    record {
      enclosed = λ n long. sum-enclosed x n (omega arith);
      narrow = wider-narrow (lit≤ tt) (exponential-narrow x);
      rest = λ k past.
          let e : k ≡ (k - 25) + 25 = omega arith in
          let h = subst (λ (j : ℕ). 2 ^ 69 * (19 * v.power) ^ j < den (100 * (v.mass + 75)) j) (sym e) (rest-small x (k - 25)) in
          omega zs;
    }

pub true-ends : (v : VehicleSheet) → judge_vehicle v ≡ Ok tt → TrueEnds v
true-ends v accepted = sound-ends (accepted-sound v accepted)

pub true-speeds : (v : VehicleSheet) → judge_vehicle v ≡ Ok tt → (e : Fraction) → BetweenEnds v e → (i : ℕ) → i + 1 < v.gears → TrueSpeed v e i
true-speeds v accepted = upshift-true (accepted-sound v accepted)

pub true-row : (trace : List ℕ) (v : VehicleSheet) (room start : ℕ) → gear_answer trace v room start ≡ Ok tt → TrueRow v trace
unfolding gear_answer
true-row trace v room start accepted =
    let both = then-holds (judge_sheet trace v room start) (judge_close (shift_of v) trace 0 (count_of trace)) accepted in
    let sound = (sheet-sound trace v room start both.0).of_vehicle in
    let any = row-exactly sound trace both.1 in
    let longer : (n : ℕ) → shortest ≤ n → row_of v trace (count_of trace) ≡ longer_row v n trace = λ n long. any (exact_power v n) ((sound-ends sound).enclosed n long) in
    record { longer = longer; same = λ n m h j. sym (longer n h) ∙ longer m j; any = any }
