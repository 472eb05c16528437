-- The end of a stop run, carried from second to second; the gear of its last second; and the row before corrections. Assumes nothing.
use mathlib.Core.Path.{◌≡◌, refl, sym, ap, ◌∙◌}
use mathlib.Core.Bool.{Bool, true, false}
use mathlib.Core.List.{List}
use Prim.Native.Nat.{ℕ, ◌+◌, ◌-◌, ◌*◌, ◌<◌}
use native.Mathlib.Decide.{dec_lt}
use native.Mathlib.Omega.{arith}
use lib.ListN.{length}
use Rattle.walk.proofs.Walk.{scan-on, scan-out, scan-done, pairs-length}
use Rattle.walk.proofs.Pairs.{pairs-at}
use Rattle.house.specs.House.{stop_at}
use Rattle.phase.specs.Phase.{stop_end, stop_gear, first_gear, first_row, Carried}
use Rattle.row.specs.Row.{gear_at}

-- before the first second nothing is known
pub carried_none : (trace : List ℕ) (n : ℕ) → Carried trace n 0 0
carried_none trace n = record { known = λ l. absurd (let f : ⊥ = omega arith in f) }

-- a stop second ends its run where the next one does; any other second ends it at once
pub carried-next : (trace : List ℕ) (n k end : ℕ) → k < n → end ≡ stop_end trace n k → Carried trace n (k + 1) end
carried-next trace n k end h e = record { known = go (stop_at trace k) refl }
  where
    go : (b : Bool) → stop_at trace k ≡ b → k + 1 < end → stop_end trace n (k + 1) ≡ end
    go true s l = sym (e ∙ scan-on (stop_at trace) (λ i. i) (λ i. i) n k h s)
    go false s l =
        let here : stop_end trace n k ≡ k = scan-out (stop_at trace) (λ i. i) (λ i. i) n k h s in
        absurd (let f : ⊥ = omega (arith, here, e) in f)

-- the last second of a stop run
pub last-gear : (trace : List ℕ) (n k : ℕ) → k < n → stop_at trace k ≡ true → (k + 1 < n → stop_at trace (k + 1) ≡ false) → stop_gear (stop_end trace n k - k) ≡ 1
last-gear trace n k l halt next =
    let ends : stop_end trace n k ≡ k + 1 = scan-on (stop_at trace) (λ i. i) (λ i. i) n k l halt ∙ go (dec_lt (k + 1) n) in
    let one : stop_end trace n k - k ≡ 1 = omega (arith, ends) in
    ap stop_gear one
  where
    go : Dec (k + 1 < n) → stop_end trace n (k + 1) ≡ k + 1
    go (yes below) = scan-out (stop_at trace) (λ i. i) (λ i. i) n (k + 1) below (next below)
    go (no above) = scan-done (stop_at trace) (λ i. i) (λ i. i) n (k + 1) (omega arith)

-- the row before corrections: two bytes a second
pub first-length : (own : ℕ → ℕ) (trace : List ℕ) (n : ℕ) → length (first_row own trace n) ≡ 2 * n
unfolding first_row
first-length own trace n = pairs-length (first_gear own trace n) (λ k. 0) n

pub first-at : (own : ℕ → ℕ) (trace : List ℕ) (n k : ℕ) → k < n → gear_at (first_row own trace n) k ≡ first_gear own trace n k
unfolding first_row
first-at own trace n k l = (pairs-at (first_gear own trace n) (λ k. 0) n k l).0
