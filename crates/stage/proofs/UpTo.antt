-- Ends that are in order and from 0 to m: what sums, multiples and products make of them, and that a difference of two such is no larger than
-- m. Without the last the concentration could be twice what it is. Assumes nothing.
use mathlib.Core.Bool.{Bool, true, false, cond}
use Prim.Native.Nat.{ℕ, ◌+◌, ◌*◌, ◌≤◌}
use native.Mathlib.Nat.{mul-le-mul}
use lib.IntN.{ℤ, pos, negsuc, nat_abs, ◌-ℤ◌, ◌*ℤ◌}
use lib.Signed.{◌≤ℤ◌, le_z}
use Rattle.arith.specs.declared.Ends.{Ends}
use Rattle.arith.specs.Stages.{exactly, sum_of, difference_of, scaled_by, hull_of, product_of}
use Rattle.arith.specs.Fitting.{Sized}
use Rattle.arith.proofs.Parts.{zs, sub_parts}
use Rattle.arith.proofs.Ring.{add-mono, ≤_trans}
use Rattle.arith.proofs.Enclosure.{smaller-le, larger-ge}
use Rattle.arith.proofs.Size.{abs-parts}
use Rattle.stage.specs.Ranges.{UpTo}

-- ---- a number from 0 to m
record Natural (m : ℕ) (z : ℤ) : Type 0 where
  least : pos 0 ≤ℤ z
  most : z ≤ℤ pos m

product-natural : {m k : ℕ} (x y : ℤ) → Natural m x → Natural k y → Natural (m * k) (x *ℤ y)
product-natural {m} {k} (pos x) (pos y) h j =
    let p : x ≤ m = omega (zs, h.most) in
    let q : y ≤ k = omega (zs, j.most) in
    record { least = omega zs; most = omega (zs, mul-le-mul p q) }
product-natural (negsuc x) y h j = absurd h.least.le
product-natural (pos x) (negsuc y) h j = absurd j.least.le

pick-natural : {m : ℕ} (x y : ℤ) (t : Bool) → Natural m x → Natural m y → Natural m (cond t x y)
pick-natural x y true h j = h
pick-natural x y false h j = j

-- ---- ends from 0 to m
module _ {m : ℕ} {e : Ends} (u : UpTo m e) where
  lower-natural : Natural m e.lower
  lower-natural = record { least = u.least; most = ≤_trans u.ordered u.most }

  upper-natural : Natural m e.upper
  upper-natural = record { least = ≤_trans u.least u.ordered; most = u.most }

  pub up_to-size : Sized m e
  up_to-size =
      record {
        lower = omega (zs, lower-natural.least, lower-natural.most, abs-parts e.lower);
        upper = omega (zs, upper-natural.least, upper-natural.most, abs-parts e.upper);
      }

  pub wider-up_to : {k : ℕ} → m ≤ k → UpTo k e
  wider-up_to h = record { least = u.least; ordered = u.ordered; most = omega (zs, u.most) }

pub exactly-up_to : {m : ℕ} (n : ℕ) → n ≤ m → UpTo m (exactly (pos n))
unfolding exactly
exactly-up_to n h = record { least = omega zs; ordered = omega zs; most = omega zs }

pub sum-up_to : {m k : ℕ} {a b : Ends} → UpTo m a → UpTo k b → UpTo (m + k) (sum_of a b)
unfolding sum_of
sum-up_to u v =
    record {
      least = add-mono u.least v.least;
      ordered = add-mono u.ordered v.ordered;
      most = add-mono u.most v.most;
    }

scaled-up_to : {m k : ℕ} {e : Ends} (c : ℤ) → Natural m c → UpTo k e → UpTo (m * k) (scaled_by c e)
unfolding scaled_by
scaled-up_to {e = e} c h u =
    let p = c *ℤ e.lower in
    let q = c *ℤ e.upper in
    let l = product-natural c e.lower h (lower-natural u) in
    let r = product-natural c e.upper h (upper-natural u) in
    record {
      least = (pick-natural p q (le_z p q) l r).least;
      ordered = ≤_trans (smaller-le p q).0 (larger-ge p q).0;
      most = (pick-natural q p (le_z p q) r l).most;
    }

pub times-up_to : {m k : ℕ} {e : Ends} (c : ℕ) → c ≤ m → UpTo k e → UpTo (m * k) (scaled_by (pos c) e)
times-up_to c h u = scaled-up_to (pos c) (record { least = omega zs; most = omega zs }) u

pub product-up_to : {m k : ℕ} {a b : Ends} → UpTo m a → UpTo k b → UpTo (m * k) (product_of a b)
unfolding product_of hull_of
product-up_to {a = a} {b = b} u v =
    let l = scaled_by a.lower b in
    let h = scaled_by a.upper b in
    let low = scaled-up_to a.lower (lower-natural u) v in
    let high = scaled-up_to a.upper (upper-natural u) v in
    record {
      least = (pick-natural l.lower h.lower (le_z l.lower h.lower) (lower-natural low) (lower-natural high)).least;
      ordered = ≤_trans (≤_trans (smaller-le l.lower h.lower).0 low.ordered) (larger-ge l.upper h.upper).0;
      most = (pick-natural h.upper l.upper (le_z l.upper h.upper) (upper-natural high) (upper-natural low)).most;
    }

-- the difference of two numbers from 0 to m is from −m to m
minus-size : {m : ℕ} (x y : ℤ) → Natural m x → Natural m y → nat_abs (x -ℤ y) ≤ m
minus-size x y h j = omega (zs, h.least, h.most, j.least, j.most, sub_parts x y, abs-parts (x -ℤ y))

pub difference-up_to-size : {m : ℕ} {a b : Ends} → UpTo m a → UpTo m b → Sized m (difference_of a b)
unfolding difference_of
difference-up_to-size {a = a} {b = b} u v =
    record {
      lower = minus-size a.lower b.upper (lower-natural u) (upper-natural v);
      upper = minus-size a.upper b.lower (upper-natural u) (lower-natural v);
    }
