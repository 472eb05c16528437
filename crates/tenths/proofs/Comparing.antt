-- One comparison: a speed has reached the least tenth above a shift speed exactly where 01's comparison finds it above, and the least tenth that is not below it
-- exactly where that does not find it below. Two laws of division; how far apart the sides are does not matter here. Assumes nothing.
use mathlib.Core.Path.{◌≡◌, refl, sym, ap, subst}
use mathlib.Core.Bool.{Bool, true, false, not}
use Prim.Native.Nat.{ℕ, ◌*◌, ◌^◌, ◌≤◌, ◌<◌}
use native.Mathlib.Omega.{arith}
use lib.Dec.{T, leb, ltb}
use lib.IntN.{ℤ, pos, negsuc, ◌+ℤ◌, ◌*ℤ◌}
use lib.Signed.{◌≤ℤ◌, ◌<ℤ◌, lt_z, lt_z_yes, lt_z_no}
use borrow.Author.Tests.{le-leb, lt-leb, lt-ltb, le-ltb, ltb-true, ltb-false}
use Rattle.arith.specs.declared.Ends.{Ends}
use Rattle.arith.specs.Rounding.{div_down, div_up}
use Rattle.arith.proofs.Parts.{zs, add_parts}
use Rattle.arith.proofs.Ring.{mul-cancel-<}
use Rattle.arith.proofs.Rounding.{down_le, down-max, up-ge, up-min}
use Rattle.shift.specs.Speeds.{left_of, below, above}
use Rattle.tenths.specs.Least.{tenth, from_zero, least_of, not_below}

-- ---- what is counted from 0
from-zero-le : (n : ℤ) {speed : ℕ} → n ≤ℤ pos speed → from_zero n ≤ speed
from-zero-le (pos n) h = omega zs
from-zero-le (negsuc n) h = omega arith

from-zero-lt : (n : ℤ) {speed : ℕ} → pos speed <ℤ n → speed < from_zero n
from-zero-lt (pos n) h = omega zs
from-zero-lt (negsuc n) h = absurd h.lt

-- a speed of so many tenths is below n, or is not: d is what a tenth is
module _ (n : ℤ) {d : ℤ} (some : pos 0 <ℤ d) {speed : ℕ} where
  past : n <ℤ (d *ℤ pos speed) → (div_down n d +ℤ pos 1) ≤ℤ pos speed
  past h =
      let q = div_down n d in
      let least = down_le n d some in
      let under : (d *ℤ q) <ℤ (d *ℤ pos speed) = omega zs in
      let k : q <ℤ pos speed = mul-cancel-< d some under in
      omega (zs, add_parts q (pos 1))

  not-past : (d *ℤ pos speed) ≤ℤ n → pos speed <ℤ (div_down n d +ℤ pos 1)
  not-past h = let k = down-max n d (pos speed) some h in omega (zs, add_parts (div_down n d) (pos 1))

  short : (d *ℤ pos speed) <ℤ n → pos speed <ℤ div_up n d
  short h =
      let most = up-ge n d some in
      let over : (d *ℤ pos speed) <ℤ (d *ℤ div_up n d) = omega zs in
      mul-cancel-< d some over

-- ---- the two tests
module _ (speed ndv : ℕ) (some : 0 < ndv) where
  left_is : left_of speed ndv ≡ tenth ndv *ℤ pos speed
  left_is =
      let same : 10 * 2 ^ 32 * (speed * ndv) ≡ 10 * 2 ^ 32 * ndv * speed = omega arith in
      ap pos same

  tenth-some : pos 0 <ℤ tenth ndv
  tenth-some = omega zs

  pub above-by-tenths : (side : Ends) → leb (least_of side ndv).above speed ≡ above speed ndv side
  unfolding least_of
  above-by-tenths side = rw left_is (go (lt_z side.upper (tenth ndv *ℤ pos speed)) lt_z_yes lt_z_no)
    where
      go : (t : Bool) → (T t → side.upper <ℤ (tenth ndv *ℤ pos speed)) → (T (not t) → (tenth ndv *ℤ pos speed) ≤ℤ side.upper)
          → leb (from_zero (div_down side.upper (tenth ndv) +ℤ pos 1)) speed ≡ t
      go true held failed = le-leb _ speed (from-zero-le _ (past side.upper tenth-some (held tt)))
      go false held failed = lt-leb _ speed (from-zero-lt _ (not-past side.upper tenth-some (failed tt)))

  pub not-below-by-tenths : (side : Ends) → leb (least_of side ndv).not_below speed ≡ not (below speed ndv side)
  unfolding least_of
  not-below-by-tenths side =
      subst (λ (l : ℤ). leb (least_of side ndv).not_below speed ≡ not (lt_z l side.lower)) (sym left_is) (go (lt_z (tenth ndv *ℤ pos speed) side.lower) lt_z_yes lt_z_no)
    where
      go : (t : Bool) → (T t → (tenth ndv *ℤ pos speed) <ℤ side.lower) → (T (not t) → side.lower ≤ℤ (tenth ndv *ℤ pos speed))
          → leb (from_zero (div_up side.lower (tenth ndv))) speed ≡ not t
      go true held failed = lt-leb _ speed (from-zero-lt _ (short side.lower tenth-some (held tt)))
      go false held failed = le-leb _ speed (from-zero-le _ (up-min side.lower (tenth ndv) (pos speed) tenth-some (failed tt)))

-- a lowest engine speed, which is compared exactly
pub lowest-by-tenths : (speed lowest ndv : ℕ) → 0 < ndv → ltb speed (not_below lowest ndv) ≡ ltb (speed * ndv) lowest
lowest-by-tenths speed lowest ndv some = go (ltb (speed * ndv) lowest) (ltb-true (speed * ndv) lowest) (ltb-false (speed * ndv) lowest)
  where
    positive : pos 0 <ℤ pos ndv
    positive = omega zs

    go : (t : Bool) → (t ≡ true → speed * ndv < lowest) → (t ≡ false → lowest ≤ speed * ndv) → ltb speed (not_below lowest ndv) ≡ t
    go true held failed = let h = held refl in lt-ltb speed _ (from-zero-lt _ (short (pos lowest) positive (omega zs)))
    go false held failed = let h = failed refl in le-ltb speed _ (from-zero-le _ (up-min (pos lowest) (pos ndv) (pos speed) positive (omega zs)))
