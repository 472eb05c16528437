-- How far apart the ends of an outcome are, in terms of the operands' (for demand 3's widths). Assumes nothing.
use mathlib.Core.Bool.{Bool, true, false, cond}
use Prim.Native.Nat.{ℕ, suc, ◌+◌, ◌*◌, ◌≤◌, ◌<◌}
use native.Mathlib.Nat.{mul-le-mul_right}
use lib.IntN.{ℤ, pos, negsuc, nat_abs, ◌+ℤ◌, ◌-ℤ◌, ◌*ℤ◌, *ℤ_comm}
use lib.Signed.{◌≤ℤ◌, ◌<ℤ◌, le_z}
use Rattle.arith.specs.declared.Ends.{Ends}
use Rattle.arith.specs.Rounding.{div_down}
use Rattle.arith.specs.Stages.{smaller, larger, exactly, sum_of, difference_of, scaled_by, hull_of, product_of, divided_by}
use Rattle.arith.specs.Fitting.{Sized, Narrow}
use Rattle.arith.proofs.Parts.{zs, add_parts, sub_parts, mul-parts}
use Rattle.arith.proofs.Ring.{mul-add, add-mono, mul_mono, mul-flip, ≤_trans}
use Rattle.arith.proofs.Rounding.{down_lt, down-up, down-mono, up-min}
use Rattle.arith.proofs.Enclosure.{smaller-le, larger-ge}

pub exactly-narrow : (n : ℤ) → Narrow 0 (exactly n)
unfolding exactly
exactly-narrow n = record { ordered = omega zs; apart = omega (zs, add_parts n (pos 0)) }

pub wider-narrow : {w v : ℕ} {a : Ends} → w ≤ v → Narrow w a → Narrow v a
wider-narrow {w} {v} {a} h n =
    let o = n.ordered in
    let p = n.apart in
    record { ordered = o; apart = omega (zs, add_parts a.lower (pos w), add_parts a.lower (pos v)) }

module _ {w v : ℕ} {a b : Ends} (h : Narrow w a) (k : Narrow v b) where
  pub sum-narrow : Narrow (w + v) (sum_of a b)
  unfolding sum_of
  sum-narrow =
      record {
        ordered = add-mono h.ordered k.ordered;
        apart =
            omega (zs, h.apart, k.apart, add_parts a.lower (pos w), add_parts b.lower (pos v), add_parts a.upper b.upper, add_parts a.lower b.lower, add_parts (a.lower +ℤ b.lower) (pos (w + v)));
      }

  pub difference-narrow : Narrow (w + v) (difference_of a b)
  unfolding difference_of
  difference-narrow =
      record {
        ordered = omega (zs, h.ordered, k.ordered, sub_parts a.lower b.upper, sub_parts a.upper b.lower);
        apart =
            omega (zs, h.apart, k.apart, add_parts a.lower (pos w), add_parts b.lower (pos v), sub_parts a.upper b.lower, sub_parts a.lower b.upper, add_parts (a.lower -ℤ b.upper) (pos (w + v)));
      }

-- divided by a positive d: ends d · q apart come out at most q + 1 apart
pub divided-narrow : {q : ℕ} {a : Ends} (d : ℕ) → 0 < d → Narrow (d * q) a → Narrow (suc q) (divided_by a (pos d))
unfolding divided_by
divided-narrow {q} {a} d p h =
    let by : pos 0 <ℤ pos d = omega zs in
    let l = div_down a.lower (pos d) in
    let under = rw mul-add at (down_lt a.lower (pos d) by) in
    let room : a.upper ≤ℤ (pos d *ℤ l +ℤ pos (d * suc q)) =
    omega (zs, h.apart, under, add_parts a.lower (pos (d * q)), add_parts (pos d *ℤ l) (pos (d * 1)), add_parts (pos d *ℤ l) (pos (d * suc q))) in
    record {
      ordered = ≤_trans (down-mono (pos d) by h.ordered) (down-up a.upper (pos d) by);
      apart = up-min a.upper (pos d) (l +ℤ pos (suc q)) by (rw mul-add room);
    }

-- ---- products. Two numbers are at most w apart
pub record Near (w : ℕ) (x y : ℤ) : Type 0 where
  pub over : x ≤ℤ (y +ℤ pos w)
  pub under : y ≤ℤ (x +ℤ pos w)

near-self : (w : ℕ) (x : ℤ) → Near w x x
near-self w x = record { over = omega (zs, add_parts x (pos w)); under = omega (zs, add_parts x (pos w)) }

near-swap : {w : ℕ} {x y : ℤ} → Near w x y → Near w y x
near-swap n = record { over = n.under; under = n.over }

near-ends : {w : ℕ} {a : Ends} → Narrow w a → Near w a.lower a.upper
near-ends {w} {a} n = record { over = omega (zs, n.ordered, add_parts a.upper (pos w)); under = n.apart }

-- what k makes of two that are v apart is at most |k| · v apart
slope : {m v : ℕ} {x y : ℤ} (k : ℤ) → nat_abs k ≤ m → Near v x y → (k *ℤ x) ≤ℤ ((k *ℤ y) +ℤ pos (m * v))
slope {m} {v} {x} {y} (pos k) h n =
    let up = rw mul-add at (mul_mono (pos k) (omega zs) n.over) in
    omega (zs, up, add_parts (pos k *ℤ y) (pos (k * v)), add_parts (pos k *ℤ y) (pos (m * v)), mul-le-mul_right v h)
slope {m} {v} {x} {y} (negsuc k) h n =
    let up = rw mul-add at (mul-flip (negsuc k) (omega zs) n.under) in
    omega (zs, up, mul-parts (negsuc k) (pos v), add_parts (negsuc k *ℤ x) (negsuc k *ℤ pos v), add_parts (negsuc k *ℤ y) (pos (m * v)), mul-le-mul_right v h)

-- two products, of factors that are near each other
near-product : {m k w v : ℕ} {x x' y y' : ℤ} → nat_abs x ≤ m → nat_abs y' ≤ k → Near w x x' → Near v y y' → (x *ℤ y) ≤ℤ ((x' *ℤ y') +ℤ pos (m * v + k * w))
near-product {m} {k} {w} {v} {x} {x'} {y} {y'} hx hy nx ny =
    let first = slope x hx ny in
    let last = rw (*ℤ_comm y' x, *ℤ_comm y' x') at (slope y' hy nx) in
    omega (zs, first, last, add_parts (x *ℤ y') (pos (m * v)), add_parts (x' *ℤ y') (pos (k * w)), add_parts (x' *ℤ y') (pos (m * v + k * w)))

-- what is at most w above each of two is so above the smaller; what is at or above each of two is so above the larger
smaller-near : (w : ℕ) {x : ℤ} (m n : ℤ) → x ≤ℤ (m +ℤ pos w) → x ≤ℤ (n +ℤ pos w) → x ≤ℤ (smaller m n +ℤ pos w)
smaller-near w {x} m n h k = go (le_z m n)
  where
    go : (t : Bool) → x ≤ℤ (cond t m n +ℤ pos w)
    go true = h
    go false = k

larger-le : {s : ℤ} (m n : ℤ) → m ≤ℤ s → n ≤ℤ s → larger m n ≤ℤ s
larger-le {s} m n h k = go (le_z m n)
  where
    go : (t : Bool) → cond t n m ≤ℤ s
    go true = k
    go false = h

-- a number of either sign, of size at most m
pub scaled-narrow : {m w : ℕ} {a : Ends} (k : ℤ) → nat_abs k ≤ m → Narrow w a → Narrow (m * w) (scaled_by k a)
unfolding scaled_by
scaled-narrow {m} {w} {a} k h n =
    let p = k *ℤ a.lower in
    let q = k *ℤ a.upper in
    let over : (x : ℤ) → Near w x a.lower → Near w x a.upper → (k *ℤ x) ≤ℤ (smaller p q +ℤ pos (m * w)) =
    λ x l u. smaller-near (m * w) p q (slope k h l) (slope k h u) in
    record {
      ordered = ≤_trans (smaller-le p q).0 (larger-ge p q).0;
      apart =
          larger-le p q (over a.lower (near-self w a.lower) (near-ends n))
          (over a.upper (near-swap (near-ends n)) (near-self w a.upper));
    }

-- ends of sizes m and k that are w and v apart: the products of ends are at most m · v + k · w apart
pub product_narrow : {m k w v : ℕ} {a b : Ends} → Sized m a → Sized k b → Narrow w a → Narrow v b → Narrow (m * v + k * w) (product_of a b)
unfolding product_of hull_of scaled_by
product_narrow {m} {k} {w} {v} {a} {b} h j n o =
    let ll = a.lower *ℤ b.lower in
    let lu = a.lower *ℤ b.upper in
    let ul = a.upper *ℤ b.lower in
    let uu = a.upper *ℤ b.upper in
    let room = m * v + k * w in
    let low = smaller (smaller ll lu) (smaller ul uu) in
    let over : (x y : ℤ) → nat_abs x ≤ m → Near w x a.lower → Near w x a.upper → Near v y b.lower → Near v y b.upper → (x *ℤ y) ≤ℤ (low +ℤ pos room) =
    λ x y s xl xu yl yu. smaller-near room (smaller ll lu) (smaller ul uu)
    (smaller-near room ll lu (near-product s j.lower xl yl) (near-product s j.upper xl yu))
    (smaller-near room ul uu (near-product s j.lower xu yl) (near-product s j.upper xu yu)) in
    let first = over a.lower in
    let last = over a.upper in
    let al = near-self w a.lower in
    let au = near-self w a.upper in
    let bl = near-self v b.lower in
    let bu = near-self v b.upper in
    let ab = near-ends n in
    let cd = near-ends o in
    record {
      ordered = ≤_trans (≤_trans (smaller-le (smaller ll lu) (smaller ul uu)).0 (smaller-le ll lu).0) (≤_trans (larger-ge ll lu).0 (larger-ge (larger ll lu) (larger ul uu)).0);
      apart =
          larger-le (larger ll lu) (larger ul uu)
          (larger-le ll lu (first b.lower h.lower al ab bl cd) (first b.upper h.lower al ab (near-swap cd) bu))
          (larger-le ul uu (last b.lower h.upper (near-swap ab) au bl cd) (last b.upper h.upper (near-swap ab) au (near-swap cd) bu));
    }
