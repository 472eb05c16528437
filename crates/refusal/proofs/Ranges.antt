-- What a range that holds tells of its number. Assumes nothing.
use mathlib.Core.Path.{◌≡◌, refl, sym, subst}
use mathlib.Core.Bool.{Bool, true, false, ◌&&◌, false≢true}
use Prim.Native.Nat.{ℕ, ◌≤◌}
use lib.Dec.{T, leb}
use lib.IntN.{ℤ}
use lib.Signed.{le_z, ◌≤ℤ◌, le_z_yes}
use borrow.Author.Tests.{leb-true}
use Rattle.refusal.specs.Ranges.{within, withinℤ}

pub both : (a b : Bool) → a && b ≡ true → (a ≡ true) × (b ≡ true)
both true b e = (refl, e)
both false b e = absurd (false≢true e)

pub range : (least most n : ℕ) → within least most n ≡ true → (least ≤ n) × (n ≤ most)
range least most n e =
    let h = both (leb least n) (leb n most) e in
    (leb-true least n h.0, leb-true n most h.1)

pub rangeℤ : (least most n : ℤ) → withinℤ least most n ≡ true → (least ≤ℤ n) × (n ≤ℤ most)
rangeℤ least most n e =
    let h = both (le_z least n) (le_z n most) e in
    (le_z_yes (subst T (sym h.0) tt), le_z_yes (subst T (sym h.1) tt))
