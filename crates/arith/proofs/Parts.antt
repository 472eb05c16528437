-- How `omega` is made to read ℤ. An integer z is  up z − dn z,  two naturals of which one is 0.
use mathlib.Core.Path.{◌≡◌, refl, ap}
use mathlib.Core.Bool.{Bool, true, false, not, cond}
use Prim.Native.Nat.{ℕ, zero, suc, ◌+◌, ◌*◌, ◌-◌, ◌≤◌, ◌<◌}
use native.Mathlib.Omega.{arith}
use lib.Dec.{T, ltb, leb→le, le→leb, ltb→lt, lt→ltb, nltb→le}
use lib.IntN.{ℤ, pos, negsuc, neg_ℤ, sub_ℕ, ◌+ℤ◌, ◌-ℤ◌, ◌*ℤ◌}
use lib.Signed.{◌≤ℤ◌, ◌<ℤ◌, le_z, lt_z}

abbrev pub up : ℤ → ℕ
up (pos n) = n
up (negsuc n) = 0

abbrev pub dn : ℤ → ℕ
dn (pos n) = 0
dn (negsuc n) = suc n

-- ---- the orders and equality, there and back
le-to : (a b : ℤ) → T (le_z a b) → up a + dn b ≤ up b + dn a
le-to (pos a) (pos b) t = omega (arith, leb→le)
le-to (pos a) (negsuc b) t = absurd t
le-to (negsuc a) (pos b) t = omega arith
le-to (negsuc a) (negsuc b) t = omega (arith, leb→le)

le_from : (a b : ℤ) → up a + dn b ≤ up b + dn a → T (le_z a b)
le_from (pos a) (pos b) h = omega (arith, le→leb)
le_from (pos a) (negsuc b) h = absurd (omega arith)
le_from (negsuc a) (pos b) h = tt
le_from (negsuc a) (negsuc b) h = omega (arith, le→leb)

lt-to : (a b : ℤ) → T (lt_z a b) → up a + dn b < up b + dn a
lt-to (pos a) (pos b) t = omega (arith, ltb→lt)
lt-to (pos a) (negsuc b) t = absurd t
lt-to (negsuc a) (pos b) t = omega arith
lt-to (negsuc a) (negsuc b) t = omega (arith, ltb→lt)

lt-from : (a b : ℤ) → up a + dn b < up b + dn a → T (lt_z a b)
lt-from (pos a) (pos b) h = omega (arith, lt→ltb)
lt-from (pos a) (negsuc b) h = absurd (omega arith)
lt-from (negsuc a) (pos b) h = tt
lt-from (negsuc a) (negsuc b) h = omega (arith, lt→ltb)

pub le_in : {a b : ℤ} → a ≤ℤ b → up a + dn b ≤ up b + dn a
le_in {a} {b} h = le-to a b h.le

pub le_out : {a b : ℤ} → up a + dn b ≤ up b + dn a → a ≤ℤ b
le_out {a} {b} h = record { le = le_from a b h }

pub lt_in : {a b : ℤ} → a <ℤ b → up a + dn b < up b + dn a
lt_in {a} {b} h = lt-to a b h.lt

pub lt_out : {a b : ℤ} → up a + dn b < up b + dn a → a <ℤ b
lt_out {a} {b} h = record { lt = lt-from a b h }

pub eq-in : {a b : ℤ} → a ≡ b → up a + dn b ≡ up b + dn a
eq-in {a} {b} e = rw e

pub eq-out : {a b : ℤ} → up a + dn b ≡ up b + dn a → a ≡ b
eq-out {a = pos a} {b = pos b} h = ap pos (omega arith)
eq-out {a = pos a} {b = negsuc b} h = absurd (omega arith)
eq-out {a = negsuc a} {b = pos b} h = absurd (omega arith)
eq-out {a = negsuc a} {b = negsuc b} h = ap negsuc (omega arith)

pub ruleset zs = (arith, le_in, le_out, lt_in, lt_out, eq-in, eq-out)

-- ---- the parts of a sum, a negation, a difference and a product
sub_by : (a b : ℕ) (t : Bool) → (T t → a < b) → (T (not t) → b ≤ a) → up (cond t (negsuc (b - suc a)) (pos (a - b))) + b ≡ dn (cond t (negsuc (b - suc a)) (pos (a - b))) + a
sub_by a b true y n = let h = y tt in omega arith
sub_by a b false y n = let h = n tt in omega arith

subℕ-parts : (a b : ℕ) → up (sub_ℕ a b) + b ≡ dn (sub_ℕ a b) + a
subℕ-parts a b = sub_by a b (ltb a b) (ltb→lt a b) (nltb→le a b)

pub add_parts : (a b : ℤ) → up (a +ℤ b) + (dn a + dn b) ≡ dn (a +ℤ b) + (up a + up b)
add_parts (pos a) (pos b) = omega arith
add_parts (pos a) (negsuc b) = omega (arith, subℕ-parts a (suc b))
add_parts (negsuc a) (pos b) = omega (arith, subℕ-parts b (suc a))
add_parts (negsuc a) (negsuc b) = omega arith

neg-up : (n : ℕ) → up (neg_ℤ (pos n)) ≡ 0
neg-up zero = refl
neg-up (suc n) = refl

neg-dn : (n : ℕ) → dn (neg_ℤ (pos n)) ≡ n
neg-dn zero = refl
neg-dn (suc n) = refl

pub neg-parts : (a : ℤ) → (up (neg_ℤ a) ≡ dn a) × (dn (neg_ℤ a) ≡ up a)
neg-parts (pos n) = (neg-up n, neg-dn n)
neg-parts (negsuc n) = (refl, refl)

pub sub_parts : (a b : ℤ) → up (a -ℤ b) + (dn a + up b) ≡ dn (a -ℤ b) + (up a + dn b)
sub_parts a b = omega (arith, add_parts a (neg_ℤ b), neg-parts b)

pub mul-parts : (a b : ℤ) → up (a *ℤ b) + (up a * dn b + dn a * up b) ≡ dn (a *ℤ b) + (up a * up b + dn a * dn b)
mul-parts (pos a) (pos b) = omega arith
mul-parts (pos a) (negsuc b) = omega (arith, neg-up (a * suc b), neg-dn (a * suc b))
mul-parts (negsuc a) (pos b) = omega (arith, neg-up (suc a * b), neg-dn (suc a * b))
mul-parts (negsuc a) (negsuc b) = omega arith
