-- How many tenths there can be. Assumes nothing.
use Prim.Native.Nat.{ℕ, ◌*◌, ◌≤◌}
use native.Mathlib.Omega.{arith}
use lib.IntN.{nat_abs}
use Rattle.arith.specs.declared.Ends.{Ends}
use Rattle.arith.specs.Fitting.{Sized}
use Rattle.arith.specs.Rounding.{div_down, div_up}
use Rattle.arith.proofs.Size.{down-size, up-size}
use Rattle.shift.specs.Accepted.{largest_side}
use Rattle.tenths.specs.Least.{tenth}

-- the most tenths, at the lowest ndv
most : ℕ
most = 60000

module _ {side : Ends} (size : Sized largest_side side) {ndv : ℕ} (some : 1000 ≤ ndv) where
  room : largest_side ≤ 42949672960 * ndv * most
  unfolding most
  room = omega arith

  pub under-most : nat_abs (div_down side.upper (tenth ndv)) ≤ 60000
  unfolding most
  under-most = down-size side.upper (42949672960 * ndv) most (omega arith) (omega (arith, size.upper, room))

  pub upon-most : nat_abs (div_up side.lower (tenth ndv)) ≤ 60000
  unfolding most
  upon-most = up-size side.lower (42949672960 * ndv) most (omega arith) (omega (arith, size.lower, room))
