-- The flags of a draft's second: what version 3 allows, and a missing phase that is taken. Assumes nothing.
use mathlib.Core.Path.{◌≡◌, ap}
use mathlib.Core.Bool.{Bool, true, false, ◌&&◌, ◌||◌}
use Prim.Native.Nat.{ℕ, ◌/◌, ◌%◌, ◌≤◌, ◌<◌}
use native.Mathlib.Decide.{dec_lt}
use native.Mathlib.Omega.{arith}
use lib.Dec.{eqb, leb}
use borrow.Author.Tests.{leb-true, le-leb, eqb-true, eqb-false, ne_eqb}
use Rattle.house.specs.House.{phase_of, no_shift, no_first, missing, draft_allows, with_phase}
use Rattle.house.proofs.Versions.{of_either, both_true}

-- with the phase missing: bit 4, no phase, and marks
pub missing-flags : (flags : ℕ) → draft_allows flags ≡ true → missing flags ≡ true → (16 ≤ flags) × (flags ≤ 31) × (phase_of flags ≡ 0)
missing-flags flags e m =
    let bit = eqb-true (flags / 16 % 2) 1 m in
    of_either (leb flags 15) (leb flags 31 && eqb (phase_of flags) 0) e
    (λ few. let low = leb-true flags 15 few in absurd (omega (arith, bit, low)))
    (λ rest.
    let two = both_true (leb flags 31) (eqb (phase_of flags) 0) rest in
    let high = leb-true flags 31 two.0 in
    (omega (arith, bit, high), high, eqb-true (phase_of flags) 0 two.1))

by_bit : (flags : ℕ) → flags ≤ 31 → (flags / 16 % 2 ≡ 1 → ⊥) → flags ≤ 15
by_bit flags high none = go (dec_lt 15 flags)
  where
    go : Dec (15 < flags) → flags ≤ 15
    go (yes over) = absurd (none (omega arith))
    go (no few) = omega arith

-- with a phase: as in version 1
pub known-flags : (flags : ℕ) → draft_allows flags ≡ true → missing flags ≡ false → flags ≤ 15
known-flags flags e m =
    of_either (leb flags 15) (leb flags 31 && eqb (phase_of flags) 0) e (λ few. leb-true flags 15 few)
    (λ rest.
    let high = leb-true flags 31 (both_true (leb flags 31) (eqb (phase_of flags) 0) rest).0 in
    let none : flags / 16 % 2 ≡ 1 → ⊥ = eqb-false (flags / 16 % 2) 1 m in
    by_bit flags high none)

pub few-known : (flags : ℕ) → flags ≤ 15 → (draft_allows flags ≡ true) × (missing flags ≡ false)
few-known flags few =
    let is = le-leb flags 15 few in
    (ap (λ (b : Bool). b || (leb flags 31 && eqb (phase_of flags) 0)) is, ne_eqb (flags / 16 % 2) 1 (λ (bit : flags / 16 % 2 ≡ 1). omega arith))

-- a phase is taken: the marks stay
module _ (flags phase : ℕ) (low : 16 ≤ flags) (high : flags ≤ 31) (none : phase_of flags ≡ 0) (few : phase < 4) where
  pub taken-few : with_phase flags phase ≤ 15
  taken-few = omega (arith, none)

  pub taken-phase : phase_of (with_phase flags phase) ≡ phase
  taken-phase = omega (arith, none)

  pub taken-shift : no_shift (with_phase flags phase) ≡ no_shift flags
  taken-shift =
      let same : with_phase flags phase / 4 % 2 ≡ flags / 4 % 2 = omega (arith, none) in
      ap (λ (b : ℕ). eqb b 1) same

  pub taken-first : no_first (with_phase flags phase) ≡ no_first flags
  taken-first =
      let same : with_phase flags phase / 8 % 2 ≡ flags / 8 % 2 = omega (arith, none) in
      ap (λ (b : ℕ). eqb b 1) same
