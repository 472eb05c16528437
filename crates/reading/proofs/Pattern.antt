-- What a pattern taken apart says of its float: its size, or that it has none; and so its ends in units, one law for each way through `in_units`.
-- Assumes nothing.
use mathlib.Core.Path.{◌≡◌, refl, sym, ap, ◌∙◌, subst}
use mathlib.Core.Logic.{inl, inr}
use Prim.Native.Nat.{ℕ, zero, suc, ◌+◌, ◌-◌, ◌*◌, ◌%◌, ◌/◌, ◌^◌, ◌≤◌, ◌<◌}
use native.Mathlib.Nat.{le_trans, lt_of_le_of_lt, mul-le-mul_left, mul-lt-mul_of_pos_right, le_antisymm, le_of_lt, add_comm, zero-mul, eq-or-lt_of_le, mul_assoc, mod-lt, mul-pos, mul-le-mul}
use native.Mathlib.Omega.{arith}
use mathlib.Core.Bool.{Bool, true, false, cond}
use lib.IntN.{pos}
use lib.Dec.{T, leb, ltb, eqb, eqb-suc-zero, lit≤}
use lib.Pow.{pow-add, pow_pos, pow_mono}
use lib.Ieee.{Float, inf, nan, binary32, odd, fits, of_fields, of_bits, to_bits}
use lib.Ieee.Bits.{of_bits-to_bits, to_bits-lt}
use lib.Ieee.Exact.{HasValue, odd_sign}
use borrow.Author.Tests.{ltb-true, ltb-false, leb-true, le-leb, eqb-true, eq-eqb, ne_eqb}
use Rattle.reading.specs.declared.Binary.{Binary}
use Rattle.std.specs.Prelude.{None, Option}
use Rattle.arith.specs.declared.Ends.{Ends}
use Rattle.reading.specs.Pattern.{exponent_field, trailing, apart, binary_of, over}
use Rattle.reading.specs.Units.{Exact, none, exact_value, times, outward, up_to_limit, rounded}
use Rattle.reading.proofs.Scaling.{ratio, outward-same, cross-times, of_size, below-zero, far, past}

-- ---- what the fields say
-- the size of a float that has one, in 2⁻¹⁴⁹
abbrev size : Binary → ℕ
size b = b.significand * 2 ^ (b.exponent - 1)

-- of a pattern with the sign bit s
pub record Reads (s : Bool) (b : Binary) (x : Float) : Type 0 where
  pub few : b.significand < 2 ^ 24
  pub least : 1 ≤ b.exponent
  pub most : b.exponent ≤ 255
  pub leading : 1 < b.exponent → 2 ^ 23 ≤ b.significand
  pub sized : b.exponent < 255 → HasValue x s (size b) (2 ^ 149)
  pub unsized : b.exponent ≡ 255 → exact_value x ≡ none

-- a denormal
denormal : (s n : Bool) (t : ℕ) → t < 2 ^ 23 → Reads s (record { negative = n; exponent = 1; significand = t }) (of_fields binary32 s 0 t)
unfolding of_fields
denormal s n t h = record {
  few = omega arith;
  least = lit≤ tt;
  most = lit≤ tt;
  leading = λ l. omega (arith, l);
  sized = λ l. odd_sign 24 s t 0 149;
  unsized = λ e. absurd (omega (arith, e));
}

one_less : (x : ℕ) → x ≡ suc x - 1
one_less x = omega arith

-- any other
normal : (s n : Bool) (x t : ℕ) → suc x ≤ 255 → t < 2 ^ 23
    → Reads s (record { negative = n; exponent = suc x; significand = t + 2 ^ 23 }) (of_fields binary32 s (suc x) t)
unfolding of_fields
normal s n x t m h = record {
  few = omega arith;
  least = omega arith;
  most = m;
  leading = λ l. omega arith;
  sized = λ l. subst (λ (b : Bool). HasValue (by b) s ((t + 2 ^ 23) * 2 ^ (suc x - 1)) (2 ^ 149)) (sym (lt-eqb (suc x) 255 l)) finite;
  unsized = λ e. ap (λ (b : Bool). exact_value (by b)) (eq-eqb (suc x) 255 e) ∙ infinite (eqb t 0);
}
  where
    by : Bool → Float
    by b = cond b (cond (eqb t 0) (inf s) nan) (odd 24 s (2 ^ 23 + t) x 149)

    same : (2 ^ 23 + t) * 2 ^ x ≡ (t + 2 ^ 23) * 2 ^ (suc x - 1)
    same = ap (λ (m : ℕ). m * 2 ^ x) (add_comm (2 ^ 23) t) ∙ ap (λ (j : ℕ). (t + 2 ^ 23) * 2 ^ j) (one_less x)

    finite : HasValue (by false) s ((t + 2 ^ 23) * 2 ^ (suc x - 1)) (2 ^ 149)
    finite = subst (λ (a : ℕ). HasValue (by false) s a (2 ^ 149)) same (odd_sign 24 s (2 ^ 23 + t) x 149)

    infinite : (b : Bool) → exact_value (cond b (inf s) nan) ≡ none
    infinite true = refl
    infinite false = refl

    lt-eqb : (a b : ℕ) → a < b → eqb a b ≡ false
    lt-eqb a b h = ne_eqb a b (λ (e : a ≡ b). omega (arith, e))

module _ (bits : ℕ) where
  abbrev s : Bool
  s = leb (2 ^ 31) bits

  abbrev b : Binary
  b = binary_of bits

  abbrev x : Float
  x = of_bits binary32 bits

  pub reads : Reads s b x
  unfolding binary_of of_bits
  reads = go (exponent_field bits) (trailing bits) (eight bits) (mod-lt bits (pow_pos 23))
    where
      n : Bool
      n = ltb (2 ^ 31) bits

      eight : (m : ℕ) → m % 2 ^ 31 / 2 ^ 23 ≤ 255
      eight m = omega arith

      go : (x t : ℕ) → x ≤ 255 → t < 2 ^ 23 → Reads s (apart (eqb x 0) n x t) (of_fields binary32 s x t)
      go zero t m h = denormal s n t h
      go (suc x) t m h = subst (λ (b : Bool). Reads s (apart b n (suc x) t) (of_fields binary32 s (suc x) t)) (sym (eqb-suc-zero x)) (normal s n x t m h)

  -- ---- the sign
  past-minus-zero : b.negative ≡ ltb (2 ^ 31) bits
  unfolding binary_of
  past-minus-zero = go (eqb (exponent_field bits) 0)
    where
      go : (t : Bool) → (apart t (ltb (2 ^ 31) bits) (exponent_field bits) (trailing bits)).negative ≡ ltb (2 ^ 31) bits
      go true = refl
      go false = refl

  has-minus : b.negative ≡ true → 2 ^ 31 < bits
  has-minus h = ltb-true (2 ^ 31) bits (sym past-minus-zero ∙ h)

  not-zero : bits < 2 ^ 32 → b.negative ≡ true → 0 < b.significand
  unfolding binary_of
  not-zero w h = go (eqb (exponent_field bits) 0) refl
    where
      left : (n : ℕ) → 2 ^ 31 < n → n < 2 ^ 32 → n % 2 ^ 31 / 2 ^ 23 ≡ 0 → 0 < n % 2 ^ 23
      left n g w z = omega arith

      go : (t : Bool) → eqb (exponent_field bits) 0 ≡ t → 0 < (apart t (ltb (2 ^ 31) bits) (exponent_field bits) (trailing bits)).significand
      go true e = left bits (has-minus h) w (eqb-true (exponent_field bits) 0 e)
      go false e = omega arith

  minus-zero : b.negative ≡ false → s ≡ true → b.significand ≡ 0
  unfolding binary_of
  minus-zero h e = ap (λ (n : ℕ). (binary_of n).significand) same
    where
      same : bits ≡ 2 ^ 31
      same = le_antisymm (ltb-false (2 ^ 31) bits (sym past-minus-zero ∙ h)) (leb-true (2 ^ 31) bits e)

  -- ---- the ways through `in_units`
  pub negative : (k : ℕ) → 256 ≤ k → bits < 2 ^ 32 → b.negative ≡ true → None ≡ rounded (times (pos k) (exact_value x))
  negative k K w n = elim (eq-or-lt_of_le reads.most) [
    | inl e ↦ sym (ap (λ (v : Exact). rounded (times (pos k) v)) (reads.unsized e))
    | inr l ↦
        below-zero k x (size b) (2 ^ 149) (omega arith) (mul-pos (not-zero w n) (pow_pos (b.exponent - 1)))
        (subst (λ (s : Bool). HasValue x s (size b) (2 ^ 149)) (le-leb (2 ^ 31) bits (le_of_lt (has-minus n))) (reads.sized l))
  ]

  at_size : (k : ℕ) → b.negative ≡ false → b.exponent < 255
      → rounded (times (pos k) (exact_value x)) ≡ up_to_limit (outward (ratio (k * size b) (2 ^ 149)))
  at_size k n l = of_size k x s (size b) (2 ^ 149) (pow_pos 149) zero (reads.sized l)
    where
      zero : s ≡ true → size b ≡ 0
      zero e = ap (λ (m : ℕ). m * 2 ^ (b.exponent - 1)) (minus-zero n e) ∙ zero-mul (2 ^ (b.exponent - 1))

  pub too_large : (k : ℕ) → 256 ≤ k → b.negative ≡ false → 144 ≤ b.exponent → None ≡ rounded (times (pos k) (exact_value x))
  too_large k K n h = elim (eq-or-lt_of_le reads.most) [
    | inl e ↦ sym (ap (λ (v : Exact). rounded (times (pos k) v)) (reads.unsized e))
    | inr l ↦ past (outward (ratio (k * size b) (2 ^ 149))) (far k (size b) (2 ^ 149) (pow_pos 149) K large) ∙ sym (at_size k n l)
  ]
    where
      under : (e : ℕ) → 144 ≤ e → 143 ≤ e - 1
      under e h = omega arith

      above : (e : ℕ) → 144 ≤ e → 1 < e
      above e h = omega arith

      large : 131072 * 2 ^ 149 ≤ size b
      large = le_trans (lit≤ tt) (mul-le-mul (reads.leading (above b.exponent h)) (pow_mono (under b.exponent h)))

  pub in-range : (k : ℕ) → b.negative ≡ false → b.exponent < 144
      → up_to_limit (outward (over (k * b.significand) (150 - b.exponent))) ≡ rounded (times (pos k) (exact_value x))
  in-range k n h = ap up_to_limit same ∙ sym (at_size k n (under b.exponent h))
    where
      under : (e : ℕ) → e < 144 → e < 255
      under e h = omega arith

      join : (e : ℕ) → 1 ≤ e → e < 144 → 149 ≡ e - 1 + (150 - e)
      join e l h = omega arith

      cross : b.significand * 2 ^ 149 ≡ size b * 2 ^ (150 - b.exponent)
      cross =
          ap (λ (j : ℕ). b.significand * 2 ^ j) (join b.exponent reads.least h)
          ∙ ap (λ (n : ℕ). b.significand * n) (pow-add 2 (b.exponent - 1) (150 - b.exponent))
          ∙ sym (mul_assoc b.significand (2 ^ (b.exponent - 1)) (2 ^ (150 - b.exponent)))

      same : outward (over (k * b.significand) (150 - b.exponent)) ≡ outward (ratio (k * size b) (2 ^ 149))
      same =
          outward-same (k * b.significand) (2 ^ (150 - b.exponent)) (k * size b) (2 ^ 149) (pow_pos (150 - b.exponent)) (pow_pos 149)
          (cross-times k b.significand (2 ^ (150 - b.exponent)) (size b) (2 ^ 149) cross)

-- ---- the same of a float whose pattern is taken, as `in_units` does
module _ (k : ℕ) (x : Float) (held : T (fits binary32 x)) where
  abbrev own : Binary
  own = binary_of (to_bits binary32 x)

  worth : (z : Option Ends) → z ≡ rounded (times (pos k) (exact_value (of_bits binary32 (to_bits binary32 x)))) → rounded (times (pos k) (exact_value x)) ≡ z
  worth z e = ap (λ (y : Float). rounded (times (pos k) (exact_value y))) (sym (of_bits-to_bits binary32 x held)) ∙ sym e

  pub below_zero_is : 256 ≤ k → own.negative ≡ true → rounded (times (pos k) (exact_value x)) ≡ None
  below_zero_is K n = worth None (negative (to_bits binary32 x) k K (to_bits-lt binary32 x held) n)

  pub too_large_is : 256 ≤ k → own.negative ≡ false → 144 ≤ own.exponent → rounded (times (pos k) (exact_value x)) ≡ None
  too_large_is K n h = worth None (too_large (to_bits binary32 x) k K n h)

  pub in_range_is : own.negative ≡ false → own.exponent < 144
      → rounded (times (pos k) (exact_value x)) ≡ up_to_limit (outward (over (k * own.significand) (150 - own.exponent)))
  in_range_is n h = worth _ (in-range (to_bits binary32 x) k n h)

-- a product that `in_units` hands on
pub product_below : (k bits : ℕ) → k < 2 ^ 28 → k * (binary_of bits).significand < 2 ^ 52
product_below k bits h = lt_of_le_of_lt (mul-le-mul_left k (le_of_lt (reads bits).few)) (mul-lt-mul_of_pos_right h (pow_pos 24))
