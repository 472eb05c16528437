-- Which floats and which patterns are not a number, by the tests that `bits_of` and `float_of` make. Assumes nothing.
use mathlib.Core.Path.{◌≡◌, refl, sym, ap, ◌∙◌, subst}
use Prim.Native.Nat.{ℕ, ◌%◌, ◌^◌, ◌≤◌, ◌<◌}
use mathlib.Core.Bool.{Bool, true, false, not, true≢false}
use lib.Dec.{T}
use lib.Ieee.{Float, nan, inf, fin, binary32, is_nan, nan_bits, ne, div, of_bits, to_bits}
use lib.Ieee.Bits.{nan_bits_is, nan_bits_above}
use lib.Ieee.Compare.{differs_from_itself, nan_differs}
use borrow.Author.Tests.{lt-ltb, le-ltb}

-- ---- only what is not a number differs from itself, and has the pattern that `to_bits` names
pub is_number : (x : Float) → ne x x ≡ false → T (not (is_nan x))
unfolding is_nan
is_number nan h = absurd (true≢false (sym nan_differs ∙ h))
is_number (inf s) h = tt
is_number (fin s m e) h = tt

pub pattern_of_nan : (x : Float) → ne x x ≡ true → to_bits binary32 x ≡ 0x7fc0_0000
unfolding to_bits
pattern_of_nan x h = ap (to_bits binary32) (differs_from_itself x (subst T (sym h) tt))

-- ---- without its sign bit, a pattern that is not a number lies above the pattern of infinity
pub number_up_to_infinity : (bits : ℕ) → bits % 2 ^ 31 ≤ 0x7f80_0000 → T (not (nan_bits binary32 bits))
number_up_to_infinity bits h = subst (λ (b : Bool). T (not b)) (sym (nan_bits_above binary32 bits ∙ le-ltb _ _ h)) tt

is-nan : (x : Float) → is_nan x ≡ true → x ≡ nan
unfolding is_nan
is-nan nan h = refl
is-nan (inf s) h = absurd (subst (λ (b : Bool). T (not b)) h tt)
is-nan (fin s m e) h = absurd (subst (λ (b : Bool). T (not b)) h tt)

pub nan_above_infinity : (bits : ℕ) → 0x7f80_0000 < bits % 2 ^ 31 → of_bits binary32 bits ≡ div binary32 (of_bits binary32 0) (of_bits binary32 0)
unfolding of_bits div
nan_above_infinity bits h = is-nan (of_bits binary32 bits) (sym (nan_bits_is binary32 bits) ∙ nan_bits_above binary32 bits ∙ lt-ltb _ _ h)
