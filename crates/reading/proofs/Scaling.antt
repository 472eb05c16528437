-- The ends of a float that is known as a fraction: the definition over the natural numbers, and the same for every way to write the fraction.
-- Assumes nothing.
use mathlib.Core.Path.{◌≡◌, refl, sym, ap, ◌∙◌, subst}
use mathlib.Core.Logic.{inl, inr}
use Prim.Native.Nat.{ℕ, zero, suc, zero-le, ◌+◌, ◌*◌, ◌/◌, ◌%◌, ◌^◌, ◌≤◌, ◌<◌}
use native.Mathlib.Nat.{lt_irrefl, lt_of_lt_of_le, eq-zero-or-pos, zero-mul, one-mul, div-add-mod', mod-lt, mul-one, mul_comm, mul_assoc, mul-pos, mul-le-mul}
use native.Mathlib.Omega.{arith}
use mathlib.Core.Bool.{Bool, true, false, cond, true≢false}
use lib.IntN.{ℤ, pos, negsuc, neg_ℤ, ◌*ℤ◌}
use lib.Signed.{◌≤ℤ◌, ◌<ℤ◌, lt_z, le_z, le_z_yes, clash_ℤ}
use lib.Dec.{T, eqb, lit<, lit≤}
use lib.Pow.{pow_pos, pow_mono, shl_exact}
use borrow.Author.Tests.{le-ltb, eqb-true, eqb-false}
use lib.Ieee.{Float, nan, inf, fin, up, down}
use lib.Ieee.Fits.{down_pos}
use lib.Ieee.Bits.{is_true}
use lib.Ieee.Exact.{HasValue}
use Rattle.arith.specs.declared.Ends.{Ends}
use Rattle.arith.specs.Rounding.{div_up}
use Rattle.arith.specs.Fraction.{Fraction, decimal}
use Rattle.arith.proofs.Parts.{zs, sub_parts, mul-parts}
use Rattle.arith.proofs.Ring.{mul-cancel-<, mul-add, mul-sub}
use Rattle.arith.proofs.Rounding.{down-unique, down-same, up-ge, up-unique, up-whole, up_same, same_ends}
use Rattle.reading.specs.Units.{value, exact_value, times, outward, most_units, up_to_limit, rounded}
use Rattle.reading.specs.Pattern.{over, with_rest}
use Rattle.std.specs.Prelude.{None, Some}

abbrev pub ratio : ℕ → ℕ → Fraction
ratio n d = decimal (pos n) d

-- ---- equal fractions have the same ends
pub outward-same : (n d a c : ℕ) → 0 < d → 0 < c → n * c ≡ a * d → outward (ratio n d) ≡ outward (ratio a c)
unfolding outward
outward-same n d a c D C e =
    let same : pos (c * n) ≡ pos (d * a) = ap pos (mul_comm c n ∙ e ∙ mul_comm a d) in
    same_ends (down-same (pos n) (pos d) (pos a) (pos c) (omega zs) (omega zs) same) (up_same (pos n) (pos d) (pos a) (pos c) (omega zs) (omega zs) same)

-- ---- a whole part and a rest are the ends
up-cut : (n d q : ℕ) → 0 < d → q * d < n → n < q * d + d → pos (q + 1) ≡ div_up (pos n) (pos d)
up-cut n d q D l h =
    up-unique (pos n) (pos d) (pos (q + 1)) (omega zs) (omega zs) (rw mul-sub (omega (zs, sub_parts (pos d *ℤ pos (q + 1)) (pos d *ℤ pos 1))))

pub rest-is : (n d q r : ℕ) → 0 < d → q * d + r ≡ n → r < d → with_rest q r ≡ outward (ratio n d)
unfolding with_rest outward
rest-is n d q r D e h =
    same_ends (down-unique (pos n) (pos d) (pos q) (omega zs) (omega zs) (omega (zs, mul-add (pos d) (pos q) (pos 1)))) (go (eqb r 0) refl)
  where
    go : (t : Bool) → eqb r 0 ≡ t → pos (cond t q (q + 1)) ≡ div_up (pos n) (pos d)
    go true f = let none = eqb-true r 0 f in sym (up-whole (pos n) (pos d) (pos q) (omega zs) (omega zs))
    go false f = let some = eqb-false r 0 f in up-cut n d q D (some-rest some) (omega arith)
      where
        some-rest : (r ≡ 0 → ⊥) → q * d < n
        some-rest f = omega arith

-- places past the word: the whole product is the rest
pub all_rest : (z s : ℕ) → z < 2 ^ 52 → 64 ≤ s → outward (over z s) ≡ with_rest 0 z
all_rest z s h l = sym (rest-is z (2 ^ s) 0 z (pow_pos s) (omega arith) (lt_of_lt_of_le (lt_of_lt_of_le h (lit≤ tt)) (pow_mono l)))

-- places within the word: what one shifted by them leaves, whole and rest
pub shifted : (z s : ℕ) → s < 64 → outward (over z s) ≡ with_rest (z / (1 * 2 ^ s % 2 ^ 64)) (z % (1 * 2 ^ s % 2 ^ 64))
shifted z s h = by (1 * 2 ^ s % 2 ^ 64) (shl_exact 1 s 64 (lit< tt) h' ∙ one-mul (2 ^ s))
  where
    h' : 1 + s ≤ 64
    h' = omega (arith, h)

    by : (p : ℕ) → p ≡ 2 ^ s → outward (over z s) ≡ with_rest (z / p) (z % p)
    by p e =
        let positive : 0 < p = subst (λ (x : ℕ). 0 < x) (sym e) (pow_pos s) in
        sym (rest-is z p (z / p) (z % p) positive (div-add-mod' z p) (mod-lt z positive) ∙ ap (λ (p : ℕ). outward (ratio z p)) e)

-- ---- the definition at n / d, not below zero
plus : (k n d : ℕ) → rounded (times (pos k) (value (ratio n d))) ≡ up_to_limit (outward (ratio (k * n) d))
plus k n d =
    ap (λ (t : Bool). cond t None (up_to_limit (outward (ratio (n * k) (d * 1))))) (le-ltb (n * k) 0 zero-le)
    ∙ ap up_to_limit (ap (λ (x : ℕ). outward (ratio x (d * 1))) (mul_comm n k) ∙ ap (λ (x : ℕ). outward (ratio (k * n) x)) (mul-one d))

-- below zero
minus : (k n : ℕ) (d : ℤ) → 0 < k → 0 < n → None ≡ rounded (times (pos k) (value (record { num = neg_ℤ (pos n); den = d })))
minus k zero d K h = absurd (lt_irrefl 0 h)
minus k (suc n) d K h = go (lt_z z (pos 0)) below.lt
  where
    z : ℤ
    z = negsuc n *ℤ pos k

    below : z <ℤ pos 0
    below = omega (zs, mul-parts (negsuc n) (pos k))

    go : (t : Bool) → T t → None ≡ cond t None (up_to_limit (outward (record { num = z; den = d *ℤ pos 1 })))
    go true t = refl
    go false t = absurd t

-- at a float without a minus, and at minus zero
plain : (k : ℕ) (s : Bool) (m : ℕ) (e : ℤ) → (T s → m * up e ≡ 0)
    → rounded (times (pos k) (exact_value (fin s m e))) ≡ up_to_limit (outward (ratio (k * (m * up e)) (down e)))
plain k false m e z = plus k (m * up e) (down e)
plain k true m e z =
    ap (λ (n : ℕ). rounded (times (pos k) (value (record { num = neg_ℤ (pos n); den = pos (down e) })))) (z tt)
    ∙ plus k 0 (down e)
    ∙ ap (λ (n : ℕ). up_to_limit (outward (ratio (k * n) (down e)))) (sym (z tt))

-- ---- at a float of the size a / c
-- a product with a positive number is zero only at zero
zero-only : (z c w : ℕ) → 0 < c → z * c ≡ w → w ≡ 0 → z ≡ 0
zero-only z c w C h e = elim (eq-zero-or-pos z) [ inl p ↦ p | inr p ↦ absurd (lt_irrefl 0 (subst (λ (x : ℕ). 0 < x) (h ∙ e) (mul-pos p C))) ]

-- equal fractions, so cross-times times each
pub cross-times : (k n d a c : ℕ) → n * c ≡ a * d → k * n * c ≡ k * a * d
cross-times k n d a c e = mul_assoc k n c ∙ ap (λ (x : ℕ). k * x) e ∙ sym (mul_assoc k a d)

pub of_size : (k : ℕ) (x : Float) (s : Bool) (a c : ℕ) → 0 < c → (s ≡ true → a ≡ 0) → HasValue x s a c
    → rounded (times (pos k) (exact_value x)) ≡ up_to_limit (outward (ratio (k * a) c))
of_size k nan s a c C z v = absurd v
of_size k (inf t) s a c C z v = absurd v
of_size k (fin t m e) s a c C z v =
    plain k t m e zero ∙ ap up_to_limit (outward-same (k * (m * up e)) (down e) (k * a) c (down_pos e) C (cross-times k (m * up e) (down e) a c v.1))
  where
    zero : T t → m * up e ≡ 0
    zero u = zero-only (m * up e) c (a * down e) C v.1 (ap (λ (n : ℕ). n * down e) (z (sym v.0 ∙ is_true t u)) ∙ zero-mul (down e))

pub below-zero : (k : ℕ) (x : Float) (a c : ℕ) → 0 < k → 0 < a → HasValue x true a c → None ≡ rounded (times (pos k) (exact_value x))
below-zero k nan a c K A v = absurd v
below-zero k (inf t) a c K A v = absurd v
below-zero k (fin false m e) a c K A v = absurd (true≢false (sym v.0))
below-zero k (fin true m e) a c K A v = minus k (m * up e) (pos (down e)) K (some (m * up e) (subst (λ (n : ℕ). 0 < n) (sym v.1) (mul-pos A (down_pos e))))
  where
    some : (n : ℕ) → 0 < n * c → 0 < n
    some n h = elim (eq-zero-or-pos n) [ inl p ↦ absurd (lt_irrefl 0 (subst (λ (x : ℕ). 0 < x) (ap (λ (x : ℕ). x * c) p ∙ zero-mul c) h)) | inr p ↦ p ]

-- ---- over the limit
-- 131,072 is over the limit at any scale from that of ppm on
pub far : (k n d : ℕ) → 0 < d → 256 ≤ k → 131072 * d ≤ n → pos most_units <ℤ (outward (ratio (k * n) d)).upper
unfolding outward
far k n d D K N =
    let over = up-ge (pos (k * n)) (pos d) (omega zs) in
    let most = mul-le-mul K N in
    mul-cancel-< (pos d) (omega zs) (omega zs)

pub past : (e : Ends) → pos most_units <ℤ e.upper → None ≡ up_to_limit e
past e h = go (le_z e.upper (pos most_units)) le_z_yes
  where
    go : (t : Bool) → (T t → e.upper ≤ℤ pos most_units) → None ≡ cond t (Some e) None
    go true f = absurd (clash_ℤ h (f tt))
    go false f = refl
