-- The laws of ℤ that `lib.IntN` and `lib.Signed` lack: ring laws, orders under sums and products, and a test of two integers.
use mathlib.Core.Path.{◌≡◌, sym, ap, ◌∙◌}
use mathlib.Core.Logic.{◌⊎◌, inl, inr, ⊎_elim}
use Prim.Native.Nat.{ℕ, zero, suc, ◌+◌, ◌*◌, ◌≤◌}
use native.Mathlib.Nat.{mul-le-mul_left, mul-lt-mul_of_pos_left}
use native.Mathlib.Decide.{dec_le}
use mathlib.Core.Bool.{not}
use lib.Dec.{T, nleb→lt}
use lib.IntN.{ℤ, pos, negsuc, neg_ℤ, ◌+ℤ◌, ◌-ℤ◌, ◌*ℤ◌, *ℤ_comm, *ℤ-zero}
use lib.Signed.{◌≤ℤ◌, ◌<ℤ◌, clash_ℤ, le_z}
use Rattle.arith.proofs.Parts.{up, dn, zs, le_in, lt_in, add_parts, neg-parts, sub_parts, mul-parts}

-- ---- ring laws
pub times : (k : ℕ) {x y : ℕ} → x ≡ y → k * x ≡ k * y
times k e = ap (λ (z : ℕ). k * z) e

pub mul-add : (a b c : ℤ) → a *ℤ (b +ℤ c) ≡ a *ℤ b +ℤ a *ℤ c
mul-add a b c =
    omega (zs, mul-parts a (b +ℤ c), mul-parts a b, mul-parts a c, add_parts (a *ℤ b) (a *ℤ c), times (up a) (add_parts b c), times (dn a) (add_parts b c))

pub mul_assoc : (a b c : ℤ) → (a *ℤ b) *ℤ c ≡ a *ℤ (b *ℤ c)
mul_assoc a b c =
    omega (zs, mul-parts (a *ℤ b) c, mul-parts a (b *ℤ c), times (up c) (mul-parts a b), times (dn c) (mul-parts a b), times (up a) (mul-parts b c), times (dn a) (mul-parts b c))

pub mul_left_comm : (a b c : ℤ) → a *ℤ (b *ℤ c) ≡ b *ℤ (a *ℤ c)
mul_left_comm a b c = sym (mul_assoc a b c) ∙ ap (λ (z : ℤ). z *ℤ c) (*ℤ_comm a b) ∙ mul_assoc b a c

pub mul-sub : (a b c : ℤ) → a *ℤ (b -ℤ c) ≡ a *ℤ b -ℤ a *ℤ c
mul-sub a b c =
    omega (zs, mul-parts a (b -ℤ c), mul-parts a b, mul-parts a c, sub_parts (a *ℤ b) (a *ℤ c), times (up a) (sub_parts b c), times (dn a) (sub_parts b c))

pub mul-neg : (a b : ℤ) → a *ℤ neg_ℤ b ≡ neg_ℤ (a *ℤ b)
mul-neg a b = omega (zs, mul-parts a (neg_ℤ b), mul-parts a b, neg-parts (a *ℤ b), times (up a) (neg-parts b).0, times (up a) (neg-parts b).1, times (dn a) (neg-parts b).0, times (dn a) (neg-parts b).1)

pub one-mul : (a : ℤ) → pos 1 *ℤ a ≡ a
one-mul a = omega (zs, mul-parts (pos 1) a)

pub mul-one : (a : ℤ) → a *ℤ pos 1 ≡ a
mul-one a = omega (zs, mul-parts a (pos 1))

-- products sorted alike on both sides
pub ruleset products = (mul_assoc, mul_left_comm, *ℤ_comm)

-- ---- the orders
pub ≤_trans : {a b c : ℤ} → a ≤ℤ b → b ≤ℤ c → a ≤ℤ c
≤_trans h k = omega zs

pub <-≤ : {a b : ℤ} → a <ℤ b → a ≤ℤ b
<-≤ h = omega zs

-- a test that failed, which `lib.Signed` has for `lt_z` alone
pub le_z-no : (a b : ℤ) → T (not (le_z a b)) → b ≤ℤ a
le_z-no (pos a) (pos b) t = omega (zs, nleb→lt)
le_z-no (pos a) (negsuc b) t = omega zs
le_z-no (negsuc a) (pos b) t = absurd t
le_z-no (negsuc a) (negsuc b) t = omega (zs, nleb→lt)

pub ≤-or-< : (a b : ℤ) → (a ≤ℤ b) ⊎ (b <ℤ a)
≤-or-< a b = go (dec_le (up a + dn b) (up b + dn a))
  where
    go : Dec (up a + dn b ≤ up b + dn a) → (a ≤ℤ b) ⊎ (b <ℤ a)
    go (yes p) = inl (omega zs)
    go (no p) = inr (omega zs)

pub add-mono : {a b c d : ℤ} → a ≤ℤ b → c ≤ℤ d → (a +ℤ c) ≤ℤ (b +ℤ d)
add-mono {a} {b} {c} {d} h k = omega (zs, add_parts a c, add_parts b d)

pub sub-mono : {a b c d : ℤ} → a ≤ℤ b → c ≤ℤ d → (a -ℤ d) ≤ℤ (b -ℤ c)
sub-mono {a} {b} {c} {d} h k = omega (zs, sub_parts a d, sub_parts b c)

-- a product with a factor that is not negative, with one that is not positive, and with a positive one
pub mul_mono : {a b : ℤ} (k : ℤ) → pos 0 ≤ℤ k → a ≤ℤ b → (k *ℤ a) ≤ℤ (k *ℤ b)
mul_mono {a} {b} (pos k) p h = omega (zs, mul-parts (pos k) a, mul-parts (pos k) b, mul-le-mul_left k (le_in h))
mul_mono (negsuc k) p h = absurd p.le

pub mul-flip : {a b : ℤ} (k : ℤ) → k ≤ℤ pos 0 → a ≤ℤ b → (k *ℤ b) ≤ℤ (k *ℤ a)
mul-flip {a} {b} (pos zero) p h = omega (zs, mul-parts (pos 0) a, mul-parts (pos 0) b)
mul-flip (pos (suc k)) p h = absurd (omega zs)
mul-flip {a} {b} (negsuc k) p h = omega (zs, mul-parts (negsuc k) a, mul-parts (negsuc k) b, mul-le-mul_left (suc k) (le_in h))

pub mul-mono-< : {a b : ℤ} (k : ℤ) → pos 0 <ℤ k → a <ℤ b → (k *ℤ a) <ℤ (k *ℤ b)
mul-mono-< {a} {b} (pos k) p h = omega (zs, mul-parts (pos k) a, mul-parts (pos k) b, mul-lt-mul_of_pos_left (lt_in h) (lt_in p))
mul-mono-< (negsuc k) p h = absurd p.lt

-- a positive factor taken away
pub mul-cancel : {a b : ℤ} (k : ℤ) → pos 0 <ℤ k → (k *ℤ a) ≤ℤ (k *ℤ b) → a ≤ℤ b
mul-cancel {a} {b} k p h = ⊎_elim (λ q. q) (λ q. clash_ℤ (mul-mono-< k p q) h) (≤-or-< a b)

pub mul-cancel-< : {a b : ℤ} (k : ℤ) → pos 0 <ℤ k → (k *ℤ a) <ℤ (k *ℤ b) → a <ℤ b
mul-cancel-< {a} {b} k p h = ⊎_elim (λ q. clash_ℤ h (mul_mono k (<-≤ p) q)) (λ q. q) (≤-or-< b a)

pub mul-pos : {a b : ℤ} → pos 0 <ℤ a → pos 0 <ℤ b → pos 0 <ℤ (a *ℤ b)
mul-pos {a} {b} p q = rw *ℤ-zero at (mul-mono-< a p q)
