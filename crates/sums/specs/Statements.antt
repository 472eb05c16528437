-- 02, M-107: what is promised of the ends of every accepted vehicle, of its shift speeds as they are printed, and of the rows. The theorems are `true-ends`, `true-speeds` and
-- `true-row` of proofs/. Gears and shift speeds count from 0 here.
use Rattle.std.specs.Prelude.{◌≡◌, true, List, ℕ, ◌+◌, ◌*◌, ◌^◌, ◌≤◌, ◌<◌, pos, ◌*ℤ◌, ◌<ℤ◌}
use Rattle.arith.specs.Fraction.{Fraction, whole, ◌*ᶠ◌, Between}
use Rattle.arith.specs.Fitting.{Narrow}
use Rattle.house.specs.House.{count_of}
use Rattle.vehicle.specs.declared.VehicleSheet.{VehicleSheet}
use Rattle.shift.specs.Exponential.{exact_term}
use Rattle.shift.specs.Speeds.{power_of, shift_of}
use Rattle.shift.specs.Exact.{exact_upshift, exact_speed, less}
use Rattle.speeds.specs.Upshifts.{upshift_at}
use Rattle.tenths.specs.Least.{least_at}
use Rattle.gear.specs.Sheet.{row_of}
use Rattle.sums.specs.Sums.{exact_power}
use Rattle.sums.specs.Rows.{exact_row, longer_row}

-- "each N from 24 on"
abbrev pub shortest : ℕ
shortest = 24

-- "at most 128 units apart": 47 is proved
abbrev pub widest : ℕ
widest = 47

-- a number between the two ends of e, which are "in units of 1/2^32"
abbrev pub BetweenEnds : VehicleSheet → Fraction → Type 0
BetweenEnds v e = Between (power_of v) (whole (pos (2 ^ 32)) *ᶠ e)

-- the ends: "the exact alternating sum .. lies between our two ends, which are at most 128 units apart"; and each of the terms that they do not have is below 2^-69
pub record TrueEnds (v : VehicleSheet) : Type 0 where
  pub enclosed : (n : ℕ) → shortest ≤ n → BetweenEnds v (exact_power v n)
  pub narrow : Narrow widest (power_of v)
  pub rest : (k : ℕ) → shortest < k →
      let t = exact_term (19 * v.power) (100 * (v.mass + 75)) k in
      (pos (2 ^ 69) *ℤ t.num) <ℤ t.den

-- the upshift from gear i, from any e between the ends: it lies between the two ends that are printed, in 0.001 km/h; a speed from the least tenth above it on is above it,
-- and one before the least tenth that is not below it is below it
pub record TrueSpeed (v : VehicleSheet) (e : Fraction) (i : ℕ) : Type 0 where
  pub printed : Between (upshift_at (shift_of v) i) (whole (pos 1000) *ᶠ exact_upshift v e i)
  pub above : (speed : ℕ) → (least_at (shift_of v) i).above ≤ speed → less (exact_upshift v e i) (exact_speed speed) ≡ true
  pub below : (speed : ℕ) → speed < (least_at (shift_of v) i).not_below → less (exact_speed speed) (exact_upshift v e i) ≡ true

-- the row of a trace that is not refused: "a row we do print is the row that this longer sum would give, under either rule set, for every such N"; so two such sums give
-- one row, and so does any other number between the ends
pub record TrueRow (v : VehicleSheet) (trace : List ℕ) : Type 0 where
  pub longer : (n : ℕ) → shortest ≤ n → row_of v trace (count_of trace) ≡ longer_row v n trace
  pub same : (n m : ℕ) → shortest ≤ n → shortest ≤ m → longer_row v n trace ≡ longer_row v m trace
  pub any : (e : Fraction) → BetweenEnds v e → row_of v trace (count_of trace) ≡ exact_row v e trace
