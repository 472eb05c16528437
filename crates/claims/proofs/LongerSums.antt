-- What the longer sums of the exponential give (02, M-107), of the row that the buffer holds at the end and of the shift speeds that are printed. Assumes nothing.
use mathlib.Core.Path.{◌≡◌, ◌∙◌}
use mathlib.Core.List.{List}
use Prim.Native.Nat.{ℕ, ◌+◌, ◌≤◌, ◌<◌}
use lib.ListN.{length}
use Rattle.arith.specs.Fraction.{Fraction}
use Rattle.std.specs.Prelude.{Ok}
use Rattle.vehicle.specs.declared.VehicleSheet.{VehicleSheet}
use Rattle.vehicle.specs.Sheet.{judge_vehicle}
use Rattle.gear.specs.Sheet.{gear_answer}
use Rattle.sums.specs.Sums.{exact_power}
use Rattle.sums.specs.Rows.{exact_row, longer_row}
use Rattle.sums.specs.Statements.{shortest, BetweenEnds, TrueSpeed}
use Rattle.sums.proofs.Truthful.{true-ends, true-speeds, true-row}
use Rattle.claims.specs.Rows.{finished_row}
use Rattle.claims.proofs.Rows.{row-held}

module _ (trace : List ℕ) (v : VehicleSheet) (buffer : List ℕ) (start : ℕ) (accepted : gear_answer trace v (length buffer) start ≡ Ok tt) where
  -- "a row we do print is the row that this longer sum would give, under either rule set, for every such N"
  pub longer-row : (n : ℕ) → shortest ≤ n → finished_row trace v buffer start ≡ longer_row v n trace
  longer-row n long = row-held trace v buffer start accepted ∙ (true-row trace v (length buffer) start accepted).longer n long

  -- and the row that any other number between the two ends would give
  pub any-row : (e : Fraction) → BetweenEnds v e → finished_row trace v buffer start ≡ exact_row v e trace
  any-row e between = row-held trace v buffer start accepted ∙ (true-row trace v (length buffer) start accepted).any e between

-- each upshift speed of an accepted vehicle, by the exact sum to n
pub longer-speeds : (v : VehicleSheet) → judge_vehicle v ≡ Ok tt → (n : ℕ) → shortest ≤ n → (i : ℕ) → i + 1 < v.gears → TrueSpeed v (exact_power v n) i
longer-speeds v accepted n long = true-speeds v accepted (exact_power v n) ((true-ends v accepted).enclosed n long)
