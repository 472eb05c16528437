-- An `i64` and its integer: the range as `omega` reads it, the tests of a branch, and which results fit. Assumes nothing.
use mathlib.Core.Path.{◌≡◌, sym, ◌∙◌, subst}
use mathlib.Core.Bool.{Bool, true, false, not}
use Prim.Native.Nat.{zero, suc, ◌-◌, ◌+◌, ◌/◌, ◌^◌, ◌≤◌, ◌<◌}
use native.Mathlib.Nat.{div-le_self, zero-div}
use lib.Dec.{T}
use lib.IntN.{ℤ, pos, negsuc}
use lib.Signed.{◌≤ℤ◌, ◌<ℤ◌, le_z, lt_z, le_z_yes, lt_z_yes, lt_z_no, mag, quot_z}
use mir.Syntax.{w64}
use mir.Val.{SFits, of_z, to_z}
use mir.ValLaws.{to_z-of_z}
use Rattle.arith.specs.Rounding.{div_down, div_up}
use Rattle.arith.proofs.Parts.{up, dn, zs, neg-parts}

-- ---- the range
-- the number of `mag`, by differences, so that it does not matter that one part of z is 0
mag-parts : (z : ℤ) → mag z ≡ (up z - dn z) + (dn z - suc (up z))
mag-parts (pos n) = omega zs
mag-parts (negsuc n) = omega zs

-- a range goes into `omega`'s list, `omega (zs64, range f)`: of an `SFits` in reach it reads `mag` alone
pub range : {z : ℤ} → SFits w64 z → (up z < dn z + 2 ^ 63) × (dn z ≤ up z + 2 ^ 63)
range {z} f = let h = f.sfits in omega (zs, mag-parts z)

pub fits_out : {z : ℤ} → (up z - dn z) + (dn z - suc (up z)) < 2 ^ 63 → SFits w64 z
fits_out {z} h = record { sfits = omega (zs, mag-parts z) }

-- what the machine reads back from the bits of a result of a call (`c.f.ok` is the bound)
pub back : (z : ℤ) → mag z < 2 ^ 63 → to_z w64 (of_z w64 z) ≡ z
back z h = to_z-of_z w64 z (record { sfits = h })

-- a call's result that is returned or stored:  handed c.f.result c.f.ok (search (rules, c.f.ensures))
pub handed : (r : ℤ) {v : ℤ} → mag r < 2 ^ 63 → r ≡ v → to_z w64 (of_z w64 r) ≡ v
handed r h e = back r h ∙ e

-- ---- tests
pub lt-true : {a b : ℤ} → lt_z a b ≡ true → a <ℤ b
lt-true e = lt_z_yes (subst T (sym e) tt)

pub lt-false : {a b : ℤ} → lt_z a b ≡ false → b ≤ℤ a
lt-false e = lt_z_no (subst (λ (t : Bool). T (not t)) (sym e) tt)

pub le-true : {a b : ℤ} → le_z a b ≡ true → a ≤ℤ b
le-true e = le_z_yes (subst T (sym e) tt)

pub ruleset zs64 = (zs, fits_out)

-- ---- division
pub quot_fits : (n d : ℤ) → pos 0 <ℤ d → SFits w64 n → SFits w64 (quot_z n d)
quot_fits (pos a) (pos d) p f = omega (zs64, range f, div-le_self a d)
quot_fits (negsuc a) (pos d) p f = omega (zs64, range f, div-le_self (suc a) d, neg-parts (pos (suc a / d)))
quot_fits n (negsuc d) p f = absurd p.lt

-- the bits of a positive number are not 0
pub bits_pos : (d : ℤ) → pos 0 <ℤ d → 0 < of_z w64 d
bits_pos (pos d) p = omega zs
bits_pos (negsuc d) p = absurd p.lt

-- what a quotient rounded up is, is in range
pub up_fits : {n d : ℤ} → pos 0 <ℤ d → SFits w64 n → SFits w64 (div_up n d)
unfolding div_down div_up
up_fits {n} {d} p f = go n d p f
  where
    go : (n d : ℤ) → pos 0 <ℤ d → SFits w64 n → SFits w64 (div_up n d)
    go (pos zero) (pos d) p f = omega (zs64, zero-div d, neg-parts (pos (0 / d)))
    go (pos (suc a)) (pos d) p f = omega (zs64, range f, div-le_self a d)
    go (negsuc a) (pos d) p f = omega (zs64, range f, div-le_self (suc a) d, neg-parts (pos (suc a / d)))
    go n (negsuc d) p f = absurd p.lt
