-- What a version allows, and marks: version 2 has none, and version 1 without any has the flags of version 2; what 1 and 4 leave. Assumes nothing.
use mathlib.Core.Path.{◌≡◌, refl, sym}
use mathlib.Core.Bool.{Bool, true, false, ◌&&◌, ◌||◌, false≢true}
use mathlib.Core.List.{List}
use Prim.Native.Nat.{ℕ, ◌/◌, ◌%◌, ◌≤◌}
use native.Mathlib.Omega.{arith}
use lib.Dec.{eqb, leb}
use lib.ListN.{length, get_or}
use borrow.Author.Tests.{leb-true, le-leb, eqb-true, ne_eqb}
use Rattle.house.specs.House.{version_of, readable, allows, headed, no_shift, no_first, marked, good_by, good_in}

pub or-false : (b : Bool) → b ≡ (b || false)
or-false true = refl
or-false false = refl

-- where one of two holds, so does what follows from both
pub of_either : {P : Type 0} (a b : Bool) → (a || b) ≡ true → (a ≡ true → P) → (b ≡ true → P) → P
of_either true b e p q = p refl
of_either false b e p q = q e

pub both_true : (a b : Bool) → (a && b) ≡ true → (a ≡ true) × (b ≡ true)
both_true true b e = (refl, e)
both_true false b e = absurd (false≢true e)

pub allowed-most : (version flags : ℕ) → allows version flags ≡ true → flags ≤ 15
allowed-most version flags e =
    of_either (eqb version 1 && leb flags 15) (eqb version 2 && leb flags 3) e
    (λ first. leb-true flags 15 (both_true (eqb version 1) (leb flags 15) first).1)
    (λ second. let few = leb-true flags 3 (both_true (eqb version 2) (leb flags 3) second).1 in omega (arith, few))

pub allowed-second : (flags : ℕ) → allows 2 flags ≡ true → flags ≤ 3
allowed-second flags e = leb-true flags 3 e

-- what 4 leaves of a second, and that this is all
pub good-parts : (allowed : Bool) (speed fourth : ℕ) → good_by allowed speed fourth ≡ true → (speed ≤ 2000) × (allowed ≡ true) × (fourth ≡ 0)
good-parts allowed speed fourth e =
    let slow = leb speed 2000 in
    let three = both_true (slow && allowed) (eqb fourth 0) e in
    let two = both_true slow allowed three.0 in
    (leb-true speed 2000 two.0, two.1, eqb-true fourth 0 three.1)

pub parts-good : {allowed : Bool} (speed fourth : ℕ) → speed ≤ 2000 → allowed ≡ true → fourth ≡ 0 → good_by allowed speed fourth ≡ true
parts-good speed fourth slow known none =
    let is = le-leb speed 2000 slow in
    (λ i. is i && known i && eqb (none i) 0)

pub good-second : (version speed flags fourth : ℕ) → good_in version speed flags fourth ≡ true → (speed ≤ 2000) × (allows version flags ≡ true)
good-second version speed flags fourth e = let parts = good-parts (allows version flags) speed fourth e in (parts.0, parts.1)

-- and 1 of a version
pub headed-readable : (trace : List ℕ) → headed trace ≡ true → readable (version_of trace) ≡ true
headed-readable trace e =
    let marks = eqb (get_or trace 0 0) 87 && eqb (get_or trace 1 0) 84 && eqb (get_or trace 2 0) 82 && eqb (get_or trace 3 0) 0 in
    let known = readable (version_of trace) in
    (both_true marks known (both_true (leb 8 (length trace)) (marks && known) e).1).1

neither-set : (a b : Bool) → a ≡ false → b ≡ false → (a || b) ≡ false
neither-set false false e f = refl
neither-set true b e f = absurd (false≢true (sym e))
neither-set false true e f = absurd (false≢true (sym f))

-- the phase alone is no mark
pub phase-unmarked : (flags : ℕ) → flags ≤ 3 → marked flags ≡ false
phase-unmarked flags few =
    neither-set (no_shift flags) (no_first flags) (ne_eqb (flags / 4 % 2) 1 (λ (e : flags / 4 % 2 ≡ 1). omega arith)) (ne_eqb (flags / 8 % 2) 1 (λ (e : flags / 8 % 2 ≡ 1). omega arith))
