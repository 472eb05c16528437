-- How large the outcome of an operation can be, and from that that the machine can hold it: how a caller meets what `sum`, `scaled`, `product`
-- ask. Assumes nothing.
use mathlib.Core.Path.{◌≡◌}
use mathlib.Core.Bool.{Bool, true, false, cond}
use Prim.Native.Nat.{ℕ, suc, ◌+◌, ◌-◌, ◌*◌, ◌^◌, ◌≤◌, ◌<◌}
use native.Mathlib.Nat.{mul-le-mul}
use native.Mathlib.Omega.{arith}
use lib.IntN.{ℤ, pos, negsuc, neg_ℤ, nat_abs, ◌+ℤ◌, ◌-ℤ◌, ◌*ℤ◌}
use lib.Signed.{◌≤ℤ◌, ◌<ℤ◌, le_z}
use mir.Syntax.{w64}
use mir.Val.{SFits}
use Rattle.arith.specs.declared.Ends.{Ends}
use Rattle.arith.specs.Rounding.{div_down, div_up}
use Rattle.arith.specs.Stages.{exactly, sum_of, difference_of, scaled_by, hull_of, product_of, divided_by}
use Rattle.arith.specs.Fitting.{SumFits, DifferenceFits, ScaledFits, ProductFits, Sized}
use Rattle.arith.proofs.Parts.{up, dn, zs, add_parts, neg-parts, sub_parts}
use Rattle.arith.proofs.Ring.{mul-neg, mul-cancel, ≤_trans}
use Rattle.arith.proofs.Machine.{zs64}
use Rattle.arith.proofs.Rounding.{down_le, down-max, up-ge, up-min}

-- ---- one number. One part of it is 0
pub abs-parts : (z : ℤ) → (nat_abs z ≡ up z + dn z) × (nat_abs z ≡ (up z - dn z) + (dn z - up z))
abs-parts (pos n) = omega zs
abs-parts (negsuc n) = omega zs

pub add-size : {m k : ℕ} (x y : ℤ) → nat_abs x ≤ m → nat_abs y ≤ k → nat_abs (x +ℤ y) ≤ m + k
add-size x y h j = omega (zs, abs-parts x, abs-parts y, abs-parts (x +ℤ y), add_parts x y)

pub sub-size : {m k : ℕ} (x y : ℤ) → nat_abs x ≤ m → nat_abs y ≤ k → nat_abs (x -ℤ y) ≤ m + k
sub-size x y h j = omega (zs, abs-parts x, abs-parts y, abs-parts (x -ℤ y), sub_parts x y)

pub mul-size : {m k : ℕ} (x y : ℤ) → nat_abs x ≤ m → nat_abs y ≤ k → nat_abs (x *ℤ y) ≤ m * k
mul-size {m} {k} x y h j = go x y (mul-le-mul h j)
  where
    go : (x y : ℤ) → nat_abs x * nat_abs y ≤ m * k → nat_abs (x *ℤ y) ≤ m * k
    go (pos a) (pos b) h = h
    go (pos a) (negsuc b) h = omega (zs, abs-parts (neg_ℤ (pos (a * suc b))), neg-parts (pos (a * suc b)))
    go (negsuc a) (pos b) h = omega (zs, abs-parts (neg_ℤ (pos (suc a * b))), neg-parts (pos (suc a * b)))
    go (negsuc a) (negsuc b) h = h

-- a quotient, rounded down or up
module _ (n : ℤ) (d q : ℕ) (p : 0 < d) (h : nat_abs n ≤ d * q) where
  least : (pos d *ℤ neg_ℤ (pos q)) ≤ℤ n
  least = omega (zs, mul-neg (pos d) (pos q), neg-parts (pos (d * q)), abs-parts n)

  most : n ≤ℤ (pos d *ℤ pos q)
  most = omega (zs, abs-parts n)

  by : pos 0 <ℤ pos d
  by = omega zs

  pub down-size : nat_abs (div_down n (pos d)) ≤ q
  down-size =
      let low = down-max n (pos d) (neg_ℤ (pos q)) by least in
      let high : div_down n (pos d) ≤ℤ pos q = mul-cancel (pos d) by (≤_trans (down_le n (pos d) by) most) in
      omega (zs, abs-parts (div_down n (pos d)), neg-parts (pos q))

  pub up-size : nat_abs (div_up n (pos d)) ≤ q
  up-size =
      let low : neg_ℤ (pos q) ≤ℤ div_up n (pos d) = mul-cancel (pos d) by (≤_trans least (up-ge n (pos d) by)) in
      let high = up-min n (pos d) (pos q) by most in
      omega (zs, abs-parts (div_up n (pos d)), neg-parts (pos q))

-- one of two
pick-size : {m : ℕ} (x y : ℤ) (t : Bool) → nat_abs x ≤ m → nat_abs y ≤ m → nat_abs (cond t x y) ≤ m
pick-size x y true h j = h
pick-size x y false h j = j

-- ---- ends
pub wider-size : {m k : ℕ} {a : Ends} → m ≤ k → Sized m a → Sized k a
wider-size h j = record { lower = omega (arith, j.lower); upper = omega (arith, j.upper) }

pub exactly-size : {m : ℕ} (n : ℤ) → nat_abs n ≤ m → Sized m (exactly n)
unfolding exactly
exactly-size n h = record { lower = h; upper = h }

module _ {m k : ℕ} {a b : Ends} (h : Sized m a) (j : Sized k b) where
  pub sum-size : Sized (m + k) (sum_of a b)
  unfolding sum_of
  sum-size =
      record {
        lower = add-size a.lower b.lower h.lower j.lower;
        upper = add-size a.upper b.upper h.upper j.upper;
      }

  pub difference-size : Sized (m + k) (difference_of a b)
  unfolding difference_of
  difference-size =
      record {
        lower = sub-size a.lower b.upper h.lower j.upper;
        upper = sub-size a.upper b.lower h.upper j.lower;
      }

pub scaled-size : {m k : ℕ} {a : Ends} (c : ℤ) → nat_abs c ≤ m → Sized k a → Sized (m * k) (scaled_by c a)
unfolding scaled_by
scaled-size {a = a} c h j =
    let l = mul-size c a.lower h j.lower in
    let u = mul-size c a.upper h j.upper in
    record { lower = pick-size _ _ (le_z (c *ℤ a.lower) (c *ℤ a.upper)) l u; upper = pick-size _ _ (le_z (c *ℤ a.lower) (c *ℤ a.upper)) u l }

hull-size : {m : ℕ} {a b : Ends} → Sized m a → Sized m b → Sized m (hull_of a b)
unfolding hull_of
hull-size {a = a} {b = b} h j =
    record {
      lower = pick-size _ _ (le_z a.lower b.lower) h.lower j.lower;
      upper = pick-size _ _ (le_z a.upper b.upper) j.upper h.upper;
    }

pub product-size : {m k : ℕ} {a b : Ends} → Sized m a → Sized k b → Sized (m * k) (product_of a b)
unfolding product_of
product-size {a = a} h j = hull-size (scaled-size a.lower h.lower j) (scaled-size a.upper h.upper j)

pub divided-size : {q : ℕ} {a : Ends} (d : ℕ) → 0 < d → Sized (d * q) a → Sized q (divided_by a (pos d))
unfolding divided_by
divided-size {q} {a} d p h = record { lower = down-size a.lower d q p h.lower; upper = up-size a.upper d q p h.upper }

-- ---- in 64 bits
pub size_fits : {m : ℕ} (z : ℤ) → m < 2 ^ 63 → nat_abs z ≤ m → SFits w64 z
size_fits z h s = omega (zs64, abs-parts z)

module _ {m k : ℕ} {a b : Ends} (room : m + k < 2 ^ 63) (h : Sized m a) (j : Sized k b) where
  pub sum_fits : SumFits a b
  sum_fits =
      record {
        lower = size_fits _ room (add-size a.lower b.lower h.lower j.lower);
        upper = size_fits _ room (add-size a.upper b.upper h.upper j.upper);
      }

  pub difference-fits : DifferenceFits a b
  difference-fits =
      record {
        lower = size_fits _ room (sub-size a.lower b.upper h.lower j.upper);
        upper = size_fits _ room (sub-size a.upper b.lower h.upper j.lower);
      }

pub scaled_fits : {m k : ℕ} {a : Ends} (c : ℤ) → m * k < 2 ^ 63 → nat_abs c ≤ m → Sized k a → ScaledFits c a
scaled_fits {a = a} c room h j =
    record { lower = size_fits _ room (mul-size c a.lower h j.lower); upper = size_fits _ room (mul-size c a.upper h j.upper) }

pub product-fits : {m k : ℕ} {a b : Ends} → m * k < 2 ^ 63 → Sized m a → Sized k b → ProductFits a b
product-fits {a = a} room h j =
    record { first = scaled_fits a.lower room h.lower j; last = scaled_fits a.upper room h.upper j }
