-- A run filled with a gear: what it holds, and what stands beside it. Assumes nothing.
use mathlib.Core.Path.{◌≡◌, refl, sym, ap, ◌∙◌}
use mathlib.Core.List.{List}
use Prim.Native.Nat.{ℕ, ◌+◌, ◌-◌, ◌*◌, ◌≤◌, ◌<◌}
use native.Mathlib.Omega.{arith}
use lib.ListN.{length}
use Rattle.walk.proofs.Stores.{Storing, stores-length, not-stored, not_yet, stored}
use Rattle.row.specs.Row.{gear_at, set_gear}
use Rattle.runs.specs.Runs.{filled}

abbrev filling : ℕ → ℕ → Storing (List ℕ)
filling start gear = record {
  bytes = λ row. row;
  step = λ row k. set_gear row (start + k) gear;
  place = λ k. 2 * (start + k);
  new = λ row k. gear;
  stores = λ row k. refl;
  apart = λ j k e. omega arith;
}

module _ (row : List ℕ) (start gear count : ℕ) where
  pub fill-length : length (filled row start gear count) ≡ length row
  fill-length = stores-length (filling start gear) row count

  pub fill-in : (k : ℕ) → start ≤ k → k < start + count → 2 * k < length row → gear_at (filled row start gear count) k ≡ gear
  fill-in k h l room =
      let same : k ≡ start + (k - start) = omega arith in
      ap (gear_at (filled row start gear count)) same
      ∙ stored (filling start gear) row count (k - start) (omega arith) (omega arith)

  pub fill-before : (k : ℕ) → k < start → gear_at (filled row start gear count) k ≡ gear_at row k
  fill-before k l = not-stored (filling start gear) (2 * k) (λ j (e : 2 * k ≡ 2 * (start + j)). omega arith) row count

  pub fill-behind : (k : ℕ) → start + count ≤ k → gear_at (filled row start gear count) k ≡ gear_at row k
  fill-behind k l =
      let same : k ≡ start + (k - start) = omega arith in
      ap (gear_at (filled row start gear count)) same
      ∙ not_yet (filling start gear) row count (k - start) (omega arith)
      ∙ ap (gear_at row) (sym same)
