-- Ends that count a value in parts of its unit: what the operations of the ends make of them. Assumes nothing.
use mathlib.Core.Path.{◌≡◌, sym, ap, subst, ◌∙◌}
use Prim.Native.Nat.{ℕ, ◌*◌, ◌<◌}
use lib.IntN.{ℤ, pos, ◌*ℤ◌}
use lib.Signed.{◌<ℤ◌}
use Rattle.arith.specs.declared.Ends.{Ends}
use Rattle.arith.specs.Stages.{exactly, sum_of, difference_of, scaled_by, product_of, divided_by}
use Rattle.arith.specs.Fraction.{Fraction, ◌+ᶠ◌, ◌-ᶠ◌, ◌*ᶠ◌, ◌/ᶠ◌, Between}
use Rattle.arith.proofs.Parts.{zs}
use Rattle.arith.proofs.Ring.{mul-add, mul-sub, mul_left_comm, one-mul, mul-one, mul-pos, products}
use Rattle.arith.proofs.Enclosure.{exactly-holds, sum-holds, difference-holds, scaled-holds, product-holds, divided-holds, same-value}
use Rattle.claims.specs.Exact.{count}

abbrev parts : ℕ → Fraction → Fraction
parts k x = record { num = pos k *ℤ x.num; den = x.den }

-- the ends are in 1/k, and hold the value
pub record In (k : ℕ) (e : Ends) (x : Fraction) : Type 0 where
  pub holds : Between e (parts k x)

pub counted : {e : Ends} (k : ℕ) (x : Fraction) {n : ℤ} → n ≡ pos k *ℤ x.num → Between e (record { num = n; den = x.den }) → In k e x
counted {e} k x same h = record { holds = subst (λ (n : ℤ). Between e (record { num = n; den = x.den })) same h }

-- in the unit itself
pub in_ones : {e : Ends} {x : Fraction} → Between e x → In 1 e x
in_ones {x = x} h = counted 1 x (sym (one-mul x.num)) h

pub of_ones : {e : Ends} {x : Fraction} → In 1 e x → Between e x
of_ones {e} {x} h = subst (λ (n : ℤ). Between e (record { num = n; den = x.den })) (one-mul x.num) h.holds

-- another fraction of the same value
scaled-same : (k a b c d : ℤ) → a *ℤ c ≡ d *ℤ b → a *ℤ (k *ℤ c) ≡ d *ℤ (k *ℤ b)
scaled-same k a b c d e = mul_left_comm a k c ∙ (ap (λ (z : ℤ). k *ℤ z) e ∙ sym (mul_left_comm d k b))

pub same_in : {k : ℕ} {e : Ends} {x : Fraction} → In k e x → (y : Fraction) → pos 0 <ℤ y.den → y.den *ℤ x.num ≡ x.den *ℤ y.num → In k e y
same_in {k} {x = x} h y p e = record { holds = same-value h.holds (parts k y) p (scaled-same (pos k) y.den y.num x.num x.den e) }

-- ---- the operations
exchange : (a b c d : ℤ) → (a *ℤ b) *ℤ (c *ℤ d) ≡ (a *ℤ c) *ℤ (b *ℤ d)
exchange a b c d = simp products

pub exactly-in : (k n : ℕ) → In k (exactly (pos (k * n))) (count n)
exactly-in k n = record { holds = exactly-holds (pos (k * n)) }

pub scaled-in : {k : ℕ} {a : Ends} {x : Fraction} (j : ℕ) → In k a x → In k (scaled_by (pos j) a) (count j *ᶠ x)
scaled-in {k} {x = x} j h = counted k (count j *ᶠ x) (mul_left_comm (pos j) (pos k) x.num) (scaled-holds h.holds (pos j))

-- by a number that is itself in 1/l
pub raised-in : {k : ℕ} {a : Ends} {x : Fraction} (l j : ℕ) → In k a x → In (l * k) (scaled_by (pos (l * j)) a) (count j *ᶠ x)
raised-in {k} {x = x} l j h = counted (l * k) (count j *ᶠ x) (exchange (pos l) (pos j) (pos k) x.num) (scaled-holds h.holds (pos (l * j)))

-- l times the ends are in parts so much finer
finer-same : (l k n d : ℤ) → d *ℤ (l *ℤ (k *ℤ n)) ≡ (pos 1 *ℤ d) *ℤ ((l *ℤ k) *ℤ n)
finer-same l k n d = simp (one-mul, products)

pub finer-in : {k : ℕ} {a : Ends} {x : Fraction} (l : ℕ) → In k a x → In (l * k) (scaled_by (pos l) a) x
finer-in {k} {x = x} l h =
    record { holds = same-value (scaled-holds h.holds (pos l)) (parts (l * k) x) h.holds.positive (finer-same (pos l) (pos k) x.num x.den) }

module _ {k : ℕ} {a b : Ends} {x y : Fraction} (h : In k a x) (i : In k b y) where
  carried : (c n : ℤ) → c *ℤ (pos k *ℤ n) ≡ pos k *ℤ (c *ℤ n)
  carried c n = mul_left_comm c (pos k) n

  pub sum-in : In k (sum_of a b) (x +ᶠ y)
  sum-in = counted k (x +ᶠ y) (rw (carried y.den x.num, carried x.den y.num, mul-add)) (sum-holds h.holds i.holds)

  pub difference-in : In k (difference_of a b) (x -ᶠ y)
  difference-in = counted k (x -ᶠ y) (rw (carried y.den x.num, carried x.den y.num, mul-sub)) (difference-holds h.holds i.holds)

pub product-in : {k l : ℕ} {a b : Ends} {x y : Fraction} → In k a x → In l b y → In (k * l) (product_of a b) (x *ᶠ y)
product-in {k} {l} {x = x} {y = y} h i =
    counted (k * l) (x *ᶠ y) (exchange (pos k) x.num (pos l) y.num) (product-holds h.holds i.holds)

-- k of the parts go into the divisor
divided-same : (k l m n d : ℤ) → (d *ℤ m) *ℤ (((k *ℤ l) *ℤ n) *ℤ pos 1) ≡ (d *ℤ (k *ℤ m)) *ℤ (l *ℤ (n *ℤ pos 1))
divided-same k l m n d = simp (mul-one, products)

pub divided-in : {a : Ends} {x : Fraction} (k l m : ℕ) → 0 < k * m → 0 < m → In (k * l) a x → In l (divided_by a (pos (k * m))) (x /ᶠ count m)
divided-in {x = x} k l m p q h =
    record {
      holds =
          same-value (divided-holds h.holds (pos (k * m)) (omega zs)) (parts l (x /ᶠ count m)) (mul-pos h.holds.positive (omega zs))
          (divided-same (pos k) (pos l) (pos m) x.num x.den);
    }
