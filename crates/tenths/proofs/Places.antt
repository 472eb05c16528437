-- What stands at the seven places of a vehicle's tenths: the least tenths of each upshift, and past the last what no speed reaches. Assumes nothing.
use mathlib.Core.Path.{◌≡◌, ap, ◌∙◌}
use Prim.Native.Nat.{ℕ, ◌+◌, ◌≤◌, ◌<◌}
use lib.ListN.{get_or}
use borrow.Author.Tests.{lt-ltb, le-ltb}
use Rattle.walk.specs.Walk.{listed}
use Rattle.walk.proofs.Listed.{listed_at}
use Rattle.shift.specs.declared.Shift.{Shift}
use Rattle.shift.specs.Speeds.{side_at}
use Rattle.tenths.specs.declared.LeastTenths.{LeastTenths}
use Rattle.tenths.specs.Least.{least_of, out_of_reach, least_at}

module _ (s : Shift) (i : ℕ) where
  pub here : i + 1 < s.gears → least_at s i ≡ least_of (side_at s.first s.higher i) (get_or s.ndv i 0)
  unfolding least_at
  here l = rw (lt-ltb (i + 1) s.gears l)

  pub past : s.gears ≤ i + 1 → least_at s i ≡ out_of_reach
  unfolding least_at
  past l = rw (le-ltb (i + 1) s.gears l)

  -- of one of the two least tenths of each
  module _ (pick : LeastTenths → ℕ) (at : i < 7) where
    pub place_here : i + 1 < s.gears → get_or (listed (λ k. pick (least_at s k)) 7) i 0 ≡ pick (least_of (side_at s.first s.higher i) (get_or s.ndv i 0))
    place_here l = listed_at (λ k. pick (least_at s k)) 7 i 0 at ∙ ap pick (here l)

    pub place-past : s.gears ≤ i + 1 → get_or (listed (λ k. pick (least_at s k)) 7) i 0 ≡ pick out_of_reach
    place-past l = listed_at (λ k. pick (least_at s k)) 7 i 0 at ∙ ap pick (past l)
