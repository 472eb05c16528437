-- Correction 6 with more fuel than seconds left is the same: the fuel bounds the turns and leaves no run unjudged. Assumes nothing.
use mathlib.Core.Path.{◌≡◌, refl, ap, ◌∙◌}
use mathlib.Core.Bool.{Bool, true, false, cond}
use mathlib.Core.List.{List}
use Prim.Native.Nat.{ℕ, zero, suc, ◌+◌, ◌-◌, ◌<◌, ◌≤◌}
use native.Mathlib.Omega.{arith}
use lib.Dec.{ltb}
use borrow.Author.Tests.{le-ltb}
use Rattle.walk.proofs.Ends.{search-ends}
use Rattle.house.specs.House.{stop_at}
use Rattle.row.specs.Row.{gear_at}
use Rattle.runs.specs.Runs.{goes_on, takes, filled, end_at, run_next, row_after, next_after, smooth, smoothed}

cond-lt : (b : Bool) (k x y : ℕ) → k < x → k < y → k < cond b x y
cond-lt true k x y p q = p
cond-lt false k x y p q = q

module _ (trace : List ℕ) (n : ℕ) where
  pub end-gt : (row : List ℕ) (start k : ℕ) → k ≤ start → k < end_at trace row n start
  end-gt row start k h = omega (arith, (search-ends (goes_on trace row (gear_at row start)) _ (start + 1) (n - (start + 1)) refl).low)

  -- each turn goes on
  next-gt : (row : List ℕ) (start : ℕ) → start < next_after trace row n start
  unfolding next_after run_next
  next-gt row start =
      let end = end_at trace row n start in
      let past : start < end_at trace row n start = end-gt row start start (omega arith) in
      cond-lt (stop_at trace start) start (start + 1) _ (omega arith)
      (cond-lt (takes trace row n start end) start _ end (end-gt (filled row start (gear_at row end) (end - start)) end start (omega (arith, past))) past)

  -- one more than the seconds left changes nothing
  enough : (row : List ℕ) (start fuel : ℕ) → n ≤ start + fuel → smooth trace n row start (suc fuel) ≡ smooth trace n row start fuel
  unfolding smooth
  enough row start zero h = ap (λ (b : Bool). cond b (row_after trace row n start) row) (le-ltb start n (omega arith))
  enough row start (suc fuel) h =
      let on : start < next_after trace row n start = next-gt row start in
      ap (λ (r : List ℕ). cond (ltb start n) r row) (enough (row_after trace row n start) (next_after trace row n start) fuel (omega arith))

  -- nor does any more
  pub fuel-enough : (row : List ℕ) (more : ℕ) → smooth trace n row 0 (n + more) ≡ smoothed trace row n
  unfolding smoothed
  fuel-enough row zero =
      let same : n + 0 ≡ n = omega arith in
      ap (smooth trace n row 0) same
  fuel-enough row (suc more) =
      let same : n + suc more ≡ suc (n + more) = omega arith in
      ap (smooth trace n row 0) same ∙ enough row 0 (n + more) (omega arith) ∙ fuel-enough row more
