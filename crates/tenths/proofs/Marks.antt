-- What makes a mark a mark: of an accepted sheet at most one tenth is too close to each shift speed, and the two least tenths are the same or one apart. The ends of
-- a side are less than a tenth apart, by a crude bound. Assumes nothing.
use mathlib.Core.Path.{◌≡◌, sym, ◌∙◌}
use mathlib.Core.Bool.{Bool, true, false, not, cond}
use Prim.Native.Nat.{ℕ, ◌+◌, ◌*◌, ◌≤◌, ◌<◌}
use native.Mathlib.Omega.{arith}
use lib.Dec.{eqb}
use lib.IntN.{ℤ, pos, negsuc, ◌+ℤ◌, ◌*ℤ◌}
use lib.Signed.{◌≤ℤ◌, ◌<ℤ◌}
use borrow.Author.Tests.{leb-true, leb-false, not-true}
use Rattle.refusal.proofs.Ranges.{both}
use Rattle.arith.specs.declared.Ends.{Ends}
use Rattle.arith.specs.Fitting.{Narrow}
use Rattle.arith.specs.Rounding.{div_down, div_up}
use Rattle.arith.proofs.Parts.{zs, add_parts}
use Rattle.arith.proofs.Ring.{mul-add, mul-cancel-<}
use Rattle.arith.proofs.Rounding.{down_le, down_lt, up-ge, up-min}
use Rattle.vehicle.specs.declared.VehicleSheet.{VehicleSheet}
use Rattle.vehicle.specs.Sheet.{ndv_at, Sound}
use Rattle.shift.specs.Speeds.{first_side, higher_side, shift_of, side_at, below, above, too_close}
use Rattle.shift.proofs.Narrow.{width, first-side-narrow, higher-side-narrow}
use Rattle.tenths.specs.Least.{tenth, from_zero, least_of}
use Rattle.tenths.proofs.Comparing.{above-by-tenths, not-below-by-tenths}
use Rattle.tenths.proofs.Choosing.{InOrder}

from-zero-mono : (p q : ℤ) → p ≤ℤ q → from_zero p ≤ from_zero q
from-zero-mono (pos p) (pos q) h = omega zs
from-zero-mono (pos p) (negsuc q) h = absurd (omega zs)
from-zero-mono (negsuc p) q h = omega arith

from-zero-more : (p : ℤ) → from_zero (p +ℤ pos 1) ≤ from_zero p + 1
from-zero-more (pos p) = omega arith
from-zero-more (negsuc p) = go (negsuc p +ℤ pos 1) (omega (zs, add_parts (negsuc p) (pos 1)))
  where
    go : (z : ℤ) → z ≤ℤ pos 0 → from_zero z ≤ 0 + 1
    go (pos n) h = omega zs
    go (negsuc n) h = omega arith

from-zero-next : (p q : ℤ) → q ≤ℤ p → from_zero (q +ℤ pos 1) ≤ from_zero p + 1
from-zero-next p q h =
    let more : (q +ℤ pos 1) ≤ℤ (p +ℤ pos 1) = omega (zs, add_parts q (pos 1), add_parts p (pos 1)) in
    let first = from-zero-mono _ _ more in
    let last = from-zero-more p in
    omega arith

-- one side, whose ends are less than a tenth apart
module _ {w ndv : ℕ} {side : Ends} (narrow : Narrow w side) (less : w < 42949672960 * ndv) (some : 0 < ndv) where
  quotients : div_down side.upper (tenth ndv) ≤ℤ div_up side.lower (tenth ndv)
  quotients =
      let d = tenth ndv in
      let q = div_down side.upper d in
      let p = div_up side.lower d in
      let positive : pos 0 <ℤ d = omega zs in
      let apart : (d *ℤ q) <ℤ (d *ℤ (p +ℤ pos 1)) =
      rw (mul-add d p (pos 1)) (omega (zs, down_le side.upper d positive, up-ge side.lower d positive, narrow.apart, add_parts side.lower (pos w), add_parts (d *ℤ p) (d *ℤ pos 1))) in
      let h : q <ℤ (p +ℤ pos 1) = mul-cancel-< d positive apart in
      omega (zs, add_parts p (pos 1))

  pub next-at-most : (least_of side ndv).above ≤ (least_of side ndv).not_below + 1
  unfolding least_of
  next-at-most = from-zero-next _ _ quotients

  -- and none is below the other
  pub in_turn : (least_of side ndv).not_below ≤ (least_of side ndv).above
  unfolding least_of
  in_turn =
      let d = tenth ndv in
      let positive : pos 0 <ℤ d = omega zs in
      let over = down_lt side.upper d positive in
      let o = narrow.ordered in
      from-zero-mono _ _ (up-min side.lower d (div_down side.upper d +ℤ pos 1) positive (omega zs))

  -- so a speed that is too close is the one that the mark names
  pub close-tenth : (speed : ℕ) → too_close speed ndv side ≡ true → speed ≡ (least_of side ndv).not_below
  close-tenth speed e =
      let h = both (not (below speed ndv side)) (not (above speed ndv side)) e in
      let from = leb-true _ speed (not-below-by-tenths speed ndv some side ∙ h.0) in
      let under = leb-false _ speed (above-by-tenths speed ndv some side ∙ not-true _ h.1) in
      let next = next-at-most in
      omega arith

-- ---- of an accepted sheet
module _ {v : VehicleSheet} (sound : Sound v) where
  pub in_order_lem : InOrder (shift_of v)
  unfolding shift_of
  in_order_lem = record { first = (first-side-narrow sound).ordered; higher = (higher-side-narrow sound).ordered }

  side-narrow : (i : ℕ) → Narrow width (side_at (first_side v) (higher_side v) i)
  side-narrow i = go (eqb i 0)
    where
      go : (b : Bool) → Narrow width (cond b (first_side v) (higher_side v))
      go true = first-side-narrow sound
      go false = higher-side-narrow sound

  -- of the upshift from gear i: the two least tenths are the same, or one apart
  pub least-apart : (i : ℕ) → i < v.gears
      → let one = least_of (side_at (first_side v) (higher_side v) i) (ndv_at v.ndv i) in (one.not_below ≤ one.above) × (one.above ≤ one.not_below + 1)
  least-apart i l =
      let ratio = (sound.ndv i l).0 in
      let less : width < 42949672960 * ndv_at v.ndv i = omega (arith, ratio) in
      let some : 0 < ndv_at v.ndv i = omega (arith, ratio) in
      (in_turn (side-narrow i) less some, next-at-most (side-narrow i) less some)

  -- and at most one tenth is too close to it
  pub one-tenth : (i : ℕ) → i < v.gears → (a b : ℕ)
      → too_close a (ndv_at v.ndv i) (side_at (first_side v) (higher_side v) i) ≡ true
      → too_close b (ndv_at v.ndv i) (side_at (first_side v) (higher_side v) i) ≡ true
      → a ≡ b
  one-tenth i l a b e f =
      let ratio = (sound.ndv i l).0 in
      let at = close-tenth {ndv = ndv_at v.ndv i} (side-narrow i) (omega (arith, ratio)) (omega (arith, ratio)) in
      at a e ∙ sym (at b f)
