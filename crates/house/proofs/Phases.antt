-- A second has one phase: what accelerates or decelerates is no stop, and what decelerates does not accelerate. Assumes nothing.
use mathlib.Core.Path.{◌≡◌, sym, ◌∙◌}
use mathlib.Core.Bool.{true, false}
use Prim.Native.Nat.{ℕ, ◌%◌}
use native.Mathlib.Omega.{arith}
use lib.Dec.{eqb}
use borrow.Author.Tests.{eqb-true, ne_eqb}
use Rattle.house.specs.House.{stop, acceleration, deceleration}

-- it has a phase, and so no other
pub one-phase : (flags a b : ℕ) → (a ≡ b → ⊥) → eqb (flags % 4) a ≡ true → eqb (flags % 4) b ≡ false
one-phase flags a b other e =
    let is : flags % 4 ≡ a = eqb-true (flags % 4) a e in
    ne_eqb (flags % 4) b (λ (z : flags % 4 ≡ b). other (sym is ∙ z))

pub acceleration-drives : (flags : ℕ) → acceleration flags ≡ true → stop flags ≡ false
acceleration-drives flags e = one-phase flags 1 0 (λ (z : 1 ≡ 0). omega arith) e

pub deceleration-drives : (flags : ℕ) → deceleration flags ≡ true → stop flags ≡ false
deceleration-drives flags e = one-phase flags 3 0 (λ (z : 3 ≡ 0). omega arith) e

pub deceleration-no-acceleration : (flags : ℕ) → deceleration flags ≡ true → acceleration flags ≡ false
deceleration-no-acceleration flags e = one-phase flags 3 1 (λ (z : 3 ≡ 1). omega arith) e
