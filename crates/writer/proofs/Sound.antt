-- What seconds that are taken tell: each speed is at most 2,000 and each phase at most 3. Assumes nothing.
use mathlib.Core.Path.{◌≡◌}
use mathlib.Core.Bool.{true}
use mathlib.Core.List.{List}
use Prim.Native.Nat.{ℕ, ◌≤◌, ◌<◌}
use lib.Dec.{leb}
use borrow.Author.Tests.{leb-true}
use Rattle.std.specs.Prelude.{Ok}
use Rattle.refusal.proofs.Ranges.{both}
use Rattle.refusal.proofs.Judging.{refused-not}
use Rattle.walk.proofs.Walk.{all-good}
use Rattle.writer.specs.Writer.{speed_in, phase_in, writable, judge_seconds}

module _ (seconds : List ℕ) (n : ℕ) (e : judge_seconds seconds 0 n ≡ Ok tt) where
  each-writable : (k : ℕ) → k < n → (leb (speed_in seconds k) 2000 ≡ true) × (leb (phase_in seconds k) 3 ≡ true)
  each-writable k l =
      both (leb (speed_in seconds k) 2000) (leb (phase_in seconds k) 3) (all-good (writable seconds) _ _ (Ok tt) (λ k. refused-not) n e k l)

  pub speeds-few : (k : ℕ) → k < n → speed_in seconds k ≤ 2000
  speeds-few k l = leb-true (speed_in seconds k) 2000 (each-writable k l).0

  pub phases-few : (k : ℕ) → k < n → phase_in seconds k ≤ 3
  phases-few k l = leb-true (phase_in seconds k) 3 (each-writable k l).1
