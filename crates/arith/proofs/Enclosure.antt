-- An exact value that is between its ends stays between them, under every operation of the layer. Assumes nothing.
use mathlib.Core.Path.{◌≡◌, ◌∙◌}
use mathlib.Core.Logic.{⊎_elim}
use mathlib.Core.Bool.{Bool, true, false, not, cond}
use lib.IntN.{ℤ, pos, ◌*ℤ◌, *ℤ_comm}
use lib.Dec.{T}
use lib.Signed.{◌≤ℤ◌, ◌<ℤ◌, le_z, le_z_yes, ≤ℤ_refl}
use Rattle.arith.specs.declared.Ends.{Ends}
use Rattle.arith.specs.Stages.{smaller, larger, exactly, sum_of, difference_of, scaled_by, hull_of, product_of, divided_by}
use Rattle.arith.specs.Fraction.{Fraction, whole, ◌+ᶠ◌, ◌-ᶠ◌, ◌*ᶠ◌, ◌/ᶠ◌, Between}
use Rattle.arith.proofs.Parts.{zs}
use Rattle.arith.proofs.Ring.{mul-add, mul-sub, mul_assoc, mul_left_comm, one-mul, mul-one, add-mono, sub-mono, mul_mono, mul-flip, mul-pos, mul-cancel, ≤_trans, <-≤, ≤-or-<, le_z-no, products}
use Rattle.arith.proofs.Rounding.{down_le, up-ge}

-- ---- the smaller and the larger of two
smaller-by : (m n : ℤ) (t : Bool) → (T t → m ≤ℤ n) → (T (not t) → n ≤ℤ m) → (cond t m n ≤ℤ m) × (cond t m n ≤ℤ n)
smaller-by m n true held failed = (≤ℤ_refl m, held tt)
smaller-by m n false held failed = (failed tt, ≤ℤ_refl n)

larger-by : (m n : ℤ) (t : Bool) → (T t → m ≤ℤ n) → (T (not t) → n ≤ℤ m) → (m ≤ℤ cond t n m) × (n ≤ℤ cond t n m)
larger-by m n true held failed = (held tt, ≤ℤ_refl n)
larger-by m n false held failed = (≤ℤ_refl m, failed tt)

pub smaller-le : (m n : ℤ) → (smaller m n ≤ℤ m) × (smaller m n ≤ℤ n)
smaller-le m n = smaller-by m n (le_z m n) le_z_yes (le_z-no m n)

pub larger-ge : (m n : ℤ) → (m ≤ℤ larger m n) × (n ≤ℤ larger m n)
larger-ge m n = larger-by m n (le_z m n) le_z_yes (le_z-no m n)

-- ---- one operand
pub exactly-holds : (n : ℤ) → Between (exactly n) (whole n)
unfolding exactly
exactly-holds n = record { positive = omega zs; above = omega (zs, one-mul n); below = omega (zs, one-mul n) }

module _ {a : Ends} {p : Fraction} (h : Between a p) where
  positive-≤ : pos 0 ≤ℤ p.den
  positive-≤ = <-≤ h.positive

  pub ordered : a.lower ≤ℤ a.upper
  ordered = mul-cancel p.den h.positive (≤_trans h.above h.below)

  -- wider ends
  pub wider : {e : Ends} → e.lower ≤ℤ a.lower → a.upper ≤ℤ e.upper → Between e p
  wider u v =
      record {
        positive = h.positive;
        above = ≤_trans (mul_mono p.den positive-≤ u) h.above;
        below = ≤_trans h.below (mul_mono p.den positive-≤ v);
      }

  -- the same value as another fraction
  pub same-value : (q : Fraction) → pos 0 <ℤ q.den → q.den *ℤ p.num ≡ p.den *ℤ q.num → Between a q
  same-value q u e =
      let m = mul_left_comm p.den q.den in
      record {
        positive = u;
        above = mul-cancel p.den h.positive (rw (m a.lower, ← e) (mul_mono q.den (<-≤ u) h.above));
        below = mul-cancel p.den h.positive (rw (m a.upper, ← e) (mul_mono q.den (<-≤ u) h.below));
      }

  -- divided by a positive number, rounded outward
  pub divided-holds : (k : ℤ) → pos 0 <ℤ k → Between (divided_by a k) (p /ᶠ whole k)
  unfolding divided_by
  divided-holds k u =
      record {
        positive = mul-pos h.positive u;
        above = rw (mul-one p.num, mul_assoc) (≤_trans (mul_mono p.den positive-≤ (down_le a.lower k u)) h.above);
        below = rw (mul-one p.num, mul_assoc) (≤_trans h.below (mul_mono p.den positive-≤ (up-ge a.upper k u)));
      }

-- ---- sums and differences
module _ {a b : Ends} {p q : Fraction} (h : Between a p) (k : Between b q) where
  -- over the common denominator
  first : (x : ℤ) → (q.den *ℤ p.den) *ℤ x ≡ q.den *ℤ (p.den *ℤ x)
  first x = mul_assoc q.den p.den x

  last : (x : ℤ) → (q.den *ℤ p.den) *ℤ x ≡ p.den *ℤ (q.den *ℤ x)
  last x = mul_assoc q.den p.den x ∙ mul_left_comm q.den p.den x

  times-q : {x y : ℤ} → x ≤ℤ y → (q.den *ℤ x) ≤ℤ (q.den *ℤ y)
  times-q = mul_mono q.den (<-≤ k.positive)

  times-p : {x y : ℤ} → x ≤ℤ y → (p.den *ℤ x) ≤ℤ (p.den *ℤ y)
  times-p = mul_mono p.den (<-≤ h.positive)

  pub sum-holds : Between (sum_of a b) (p +ᶠ q)
  unfolding sum_of
  sum-holds =
      record {
        positive = mul-pos k.positive h.positive;
        above = simp (mul-add, first a.lower, last b.lower) (add-mono (times-q h.above) (times-p k.above));
        below = simp (mul-add, first a.upper, last b.upper) (add-mono (times-q h.below) (times-p k.below));
      }

  pub difference-holds : Between (difference_of a b) (p -ᶠ q)
  unfolding difference_of
  difference-holds =
      record {
        positive = mul-pos k.positive h.positive;
        above = rw (mul-sub, first a.lower, last b.upper) (sub-mono (times-q h.above) (times-p k.below));
        below = rw (mul-sub, first a.upper, last b.lower) (sub-mono (times-q h.below) (times-p k.above));
      }

-- ---- products. What k makes of a number between two is not past both of what it makes of the two
corner-low : {l u x s : ℤ} (k : ℤ) → l ≤ℤ x → x ≤ℤ u → s ≤ℤ (k *ℤ l) → s ≤ℤ (k *ℤ u) → s ≤ℤ (k *ℤ x)
corner-low k p q v w = ⊎_elim (λ t. ≤_trans v (mul_mono k t p)) (λ t. ≤_trans w (mul-flip k (<-≤ t) q)) (≤-or-< (pos 0) k)

corner-high : {l u x s : ℤ} (k : ℤ) → l ≤ℤ x → x ≤ℤ u → (k *ℤ l) ≤ℤ s → (k *ℤ u) ≤ℤ s → (k *ℤ x) ≤ℤ s
corner-high k p q v w = ⊎_elim (λ t. ≤_trans (mul_mono k t q) w) (λ t. ≤_trans (mul-flip k (<-≤ t) p) v) (≤-or-< (pos 0) k)

module _ {a : Ends} {p : Fraction} (h : Between a p) (k : ℤ) where
  swap : (x : ℤ) → p.den *ℤ (k *ℤ x) ≡ k *ℤ (p.den *ℤ x)
  swap x = mul_left_comm p.den k x

  -- k times the value, against anything below or above both outcomes
  scaled-low : {s : ℤ} → s ≤ℤ (k *ℤ a.lower) → s ≤ℤ (k *ℤ a.upper) → (p.den *ℤ s) ≤ℤ (k *ℤ p.num)
  scaled-low u v =
      corner-low k h.above h.below
      (rw (← swap a.lower) (mul_mono p.den (positive-≤ h) u))
      (rw (← swap a.upper) (mul_mono p.den (positive-≤ h) v))

  scaled-high : {s : ℤ} → (k *ℤ a.lower) ≤ℤ s → (k *ℤ a.upper) ≤ℤ s → (k *ℤ p.num) ≤ℤ (p.den *ℤ s)
  scaled-high u v =
      corner-high k h.above h.below
      (rw (← swap a.lower) (mul_mono p.den (positive-≤ h) u))
      (rw (← swap a.upper) (mul_mono p.den (positive-≤ h) v))

  -- a number of either sign
  pub scaled-holds : Between (scaled_by k a) (whole k *ᶠ p)
  unfolding scaled_by
  scaled-holds =
      let low = smaller-le (k *ℤ a.lower) (k *ℤ a.upper) in
      let high = larger-ge (k *ℤ a.lower) (k *ℤ a.upper) in
      record {
        positive = rw (one-mul p.den) h.positive;
        above = rw (one-mul p.den) (scaled-low low.0 low.1);
        below = rw (one-mul p.den) (scaled-high high.0 high.1);
      }

-- s is at most each of the four products of ends, or at least each
pub record UnderAll (s : ℤ) (a b : Ends) : Type 0 where
  pub ll : s ≤ℤ (a.lower *ℤ b.lower)
  pub lu : s ≤ℤ (a.lower *ℤ b.upper)
  pub ul : s ≤ℤ (a.upper *ℤ b.lower)
  pub uu : s ≤ℤ (a.upper *ℤ b.upper)

pub record OverAll (s : ℤ) (a b : Ends) : Type 0 where
  pub ll : (a.lower *ℤ b.lower) ≤ℤ s
  pub lu : (a.lower *ℤ b.upper) ≤ℤ s
  pub ul : (a.upper *ℤ b.lower) ≤ℤ s
  pub uu : (a.upper *ℤ b.upper) ≤ℤ s

pub product-under : (a b : Ends) → UnderAll (product_of a b).lower a b
unfolding product_of scaled_by hull_of
product-under a b =
    let l = smaller-le (a.lower *ℤ b.lower) (a.lower *ℤ b.upper) in
    let u = smaller-le (a.upper *ℤ b.lower) (a.upper *ℤ b.upper) in
    let both = smaller-le (smaller (a.lower *ℤ b.lower) (a.lower *ℤ b.upper)) (smaller (a.upper *ℤ b.lower) (a.upper *ℤ b.upper)) in
    record {
      ll = ≤_trans both.0 l.0;
      lu = ≤_trans both.0 l.1;
      ul = ≤_trans both.1 u.0;
      uu = ≤_trans both.1 u.1;
    }

pub product-over : (a b : Ends) → OverAll (product_of a b).upper a b
unfolding product_of scaled_by hull_of
product-over a b =
    let l = larger-ge (a.lower *ℤ b.lower) (a.lower *ℤ b.upper) in
    let u = larger-ge (a.upper *ℤ b.lower) (a.upper *ℤ b.upper) in
    let both = larger-ge (larger (a.lower *ℤ b.lower) (a.lower *ℤ b.upper)) (larger (a.upper *ℤ b.lower) (a.upper *ℤ b.upper)) in
    record {
      ll = ≤_trans l.0 both.0;
      lu = ≤_trans l.1 both.0;
      ul = ≤_trans u.0 both.1;
      uu = ≤_trans u.1 both.1;
    }

module _ {a b : Ends} {p q : Fraction} (h : Between a p) (k : Between b q) where
  -- each end of the first, times the second value; then the first value against the two
  turn : (x : ℤ) → p.den *ℤ (x *ℤ q.num) ≡ q.num *ℤ (p.den *ℤ x)
  turn x = simp products

  whole-den : (s : ℤ) → p.den *ℤ q.den *ℤ s ≡ p.den *ℤ (q.den *ℤ s)
  whole-den s = mul_assoc p.den q.den s

  product-low : {s : ℤ} → UnderAll s a b → (p.den *ℤ q.den *ℤ s) ≤ℤ (p.num *ℤ q.num)
  product-low {s} c =
      rw (whole-den s, *ℤ_comm p.num q.num)
      (corner-low q.num h.above h.below
      (rw (← turn a.lower) (mul_mono p.den (positive-≤ h) (scaled-low k a.lower c.ll c.lu)))
      (rw (← turn a.upper) (mul_mono p.den (positive-≤ h) (scaled-low k a.upper c.ul c.uu))))

  product_high : {s : ℤ} → OverAll s a b → (p.num *ℤ q.num) ≤ℤ (p.den *ℤ q.den *ℤ s)
  product_high {s} c =
      rw (whole-den s, *ℤ_comm p.num q.num)
      (corner-high q.num h.above h.below
      (rw (← turn a.lower) (mul_mono p.den (positive-≤ h) (scaled-high k a.lower c.ll c.lu)))
      (rw (← turn a.upper) (mul_mono p.den (positive-≤ h) (scaled-high k a.upper c.ul c.uu))))

  pub product-holds : Between (product_of a b) (p *ᶠ q)
  product-holds =
      record {
        positive = mul-pos h.positive k.positive;
        above = product-low (product-under a b);
        below = product_high (product-over a b);
      }
