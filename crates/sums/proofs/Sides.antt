-- From any e between the two ends, the engine speeds in the brackets lie between the two ends of their sides, in the unit of these. Assumes nothing.
use mathlib.Core.Path.{◌≡◌, sym, subst}
use mathlib.Core.Bool.{Bool, true, false, cond}
use Prim.Native.Nat.{ℕ, ◌-◌}
use lib.IntN.{ℤ, pos, ◌+ℤ◌, ◌-ℤ◌, ◌*ℤ◌}
use lib.Signed.{◌<ℤ◌}
use Rattle.arith.specs.declared.Ends.{Ends}
use Rattle.arith.specs.Fraction.{Fraction, whole, decimal, ◌+ᶠ◌, ◌-ᶠ◌, ◌*ᶠ◌, Between}
use Rattle.arith.proofs.Parts.{zs}
use Rattle.arith.proofs.Ring.{mul-add, mul-neg, one-mul, mul-one, mul-pos, products}
use Rattle.arith.proofs.Enclosure.{exactly-holds, same-value, sum-holds, difference-holds, scaled-holds}
use Rattle.vehicle.specs.declared.VehicleSheet.{VehicleSheet}
use Rattle.vehicle.specs.Sheet.{Sound}
use Rattle.shift.specs.Speeds.{side_unit, side_of, share, higher_part, first_side, higher_side}
use Rattle.shift.specs.Exact.{exact_first, exact_higher}
use Rattle.shift.proofs.ExactTerms.{unit}
use Rattle.shift.proofs.ExactSpeeds.{sub-mul, above-idle}
use Rattle.sums.specs.Statements.{BetweenEnds}

-- ---- two fractions of one value, where the 1s are the denominators of whole numbers
-- k is 10,000, u is 2^32, c is 5,753, s / d is e, w is s - n of the vehicle
higher-value : (k u c d s w n : ℤ) → let o = pos 1 in
    (o *ℤ (o *ℤ ((k *ℤ d) *ℤ o))) *ℤ (o *ℤ (w *ℤ (c *ℤ (u *ℤ s))) +ℤ (o *ℤ (o *ℤ (o *ℤ d))) *ℤ ((k *ℤ u) *ℤ n))
    ≡ (o *ℤ (o *ℤ (o *ℤ (o *ℤ d)))) *ℤ ((k *ℤ u) *ℤ (o *ℤ ((c *ℤ s) *ℤ w) +ℤ ((k *ℤ d) *ℤ o) *ℤ n))
higher-value k u c d s w n = simp (one-mul, mul-one, mul-add, products)

-- t is 10, h is 1,000
first-value : (t h u c d s w n : ℤ) → let o = pos 1 in
    (o *ℤ (o *ℤ ((t *ℤ ((t *ℤ h) *ℤ d)) *ℤ o)))
    *ℤ (o *ℤ (w *ℤ (o *ℤ (c *ℤ (u *ℤ s)) -ℤ (o *ℤ (o *ℤ d)) *ℤ (h *ℤ u))) +ℤ (o *ℤ (o *ℤ (o *ℤ (o *ℤ d)))) *ℤ (((t *ℤ h) *ℤ u) *ℤ n))
    ≡ (o *ℤ (o *ℤ (o *ℤ (o *ℤ (o *ℤ d)))))
    *ℤ (((t *ℤ h) *ℤ u) *ℤ (o *ℤ ((t *ℤ (c *ℤ s) -ℤ ((t *ℤ h) *ℤ d) *ℤ o) *ℤ w) +ℤ ((t *ℤ ((t *ℤ h) *ℤ d)) *ℤ o) *ℤ n))
first-value t h u c d s w n = simp (one-mul, mul-one, mul-add, sub-mul, mul-neg, products)

side-of-holds : {part : Ends} {p : Fraction} (w n : ℕ) → Between part p → Between (side_of part w n) (whole (pos w) *ᶠ p +ᶠ whole (side_unit *ℤ pos n))
unfolding side_of
side-of-holds w n h = sum-holds (scaled-holds h (pos w)) (exactly-holds (side_unit *ℤ pos n))

-- the upshift 1 to 2, or another
abbrev pub engine_by : VehicleSheet → Fraction → Bool → Fraction
engine_by v e is-first = cond is-first (exact_first v e) (exact_higher v e)

module _ {v : VehicleSheet} (sound : Sound v) (e : Fraction) (between : BetweenEnds v e) where
  part-holds : Between (higher_part v) (whole (pos share) *ᶠ (unit *ᶠ e))
  part-holds = scaled-holds between (pos share)

  e-positive : pos 0 <ℤ e.den
  e-positive = rw one-mul at between.positive

  higher-holds : Between (higher_side v) (whole side_unit *ᶠ exact_higher v e)
  unfolding higher_side exact_higher
  higher-holds =
      let w = v.rated - v.idle in
      let n = v.idle in
      let at : Fraction → Fraction = λ q. whole (pos 42949672960000) *ᶠ (decimal (pos share) 10000 *ᶠ e *ᶠ q +ᶠ whole (pos n)) in
      subst (λ (q : Fraction). Between (higher_side v) (at q)) (sym (above-idle sound))
      (same-value (side-of-holds w n part-holds) (at (whole (pos w)))
      (simp (one-mul, mul-one) (mul-pos {a = pos 10000} (omega zs) e-positive))
      (higher-value (pos 10000) (pos 4294967296) (pos share) e.den e.num (pos w) (pos n)))

  first_holds : Between (first_side v) (whole side_unit *ᶠ exact_first v e)
  unfolding first_side exact_first
  first_holds =
      let w = v.rated - v.idle in
      let n = v.idle in
      let at : Fraction → Fraction = λ q. whole (pos 42949672960000) *ᶠ ((decimal (pos share) 10000 *ᶠ e -ᶠ decimal (pos 1) 10) *ᶠ q +ᶠ whole (pos n)) in
      subst (λ (q : Fraction). Between (first_side v) (at q)) (sym (above-idle sound))
      (same-value (side-of-holds w n (difference-holds part-holds (exactly-holds (pos 4294967296000)))) (at (whole (pos w)))
      (simp (one-mul, mul-one) (mul-pos {a = pos 10} (omega zs) (mul-pos {a = pos 10000} (omega zs) e-positive)))
      (first-value (pos 10) (pos 1000) (pos 4294967296) (pos share) e.den e.num (pos w) (pos n)))

  pub side-holds : (is-first : Bool) → Between (cond is-first (first_side v) (higher_side v)) (whole side_unit *ᶠ engine_by v e is-first)
  side-holds true = first_holds
  side-holds false = higher-holds
