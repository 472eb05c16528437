-- The upshift speeds of an accepted sheet from any e between the two ends: those that are printed, and those in whole tenths, are true of them. Assumes nothing.
use mathlib.Core.Path.{◌≡◌, sym, subst, ◌∙◌}
use Prim.Native.Nat.{ℕ, ◌+◌, ◌≤◌, ◌<◌}
use native.Mathlib.Omega.{arith}
use lib.Dec.{eqb}
use lib.IntN.{ℤ, pos, ◌*ℤ◌}
use lib.Signed.{◌<ℤ◌}
use borrow.Author.Tests.{lt-ltb, le-leb, lt-leb, not-false}
use Rattle.arith.specs.declared.Ends.{Ends}
use Rattle.arith.specs.Fraction.{Fraction, whole, decimal, ◌*ᶠ◌, ◌/ᶠ◌, Between}
use Rattle.arith.proofs.Parts.{zs}
use Rattle.arith.proofs.Ring.{one-mul, mul-one, mul-pos, products}
use Rattle.arith.proofs.Enclosure.{same-value, scaled-holds, divided-holds}
use Rattle.vehicle.specs.declared.VehicleSheet.{VehicleSheet}
use Rattle.vehicle.specs.Sheet.{ndv_at, Sound}
use Rattle.shift.specs.Speeds.{side_unit, first_side, higher_side, side_at, shift_of}
use Rattle.shift.specs.Exact.{exact_upshift}
use Rattle.speeds.specs.Upshifts.{speed_of, upshift_at}
use Rattle.tenths.specs.declared.LeastTenths.{LeastTenths}
use Rattle.tenths.specs.Least.{least_of, least_at}
use Rattle.tenths.proofs.Comparing.{above-by-tenths, not-below-by-tenths}
use Rattle.tenths.proofs.Places.{here}
use Rattle.sums.specs.Statements.{BetweenEnds, TrueSpeed}
use Rattle.sums.proofs.Comparing.{above-truly, below-truly}
use Rattle.sums.proofs.Sides.{engine_by, side-holds}

-- two fractions of one value, where the 1s are the denominators of whole numbers: t is 10, h is 100, u is 2^32, s / d the engine speed
printed-value : (t h u d s ndv : ℤ) → let o = pos 1 in
    (o *ℤ (d *ℤ ndv)) *ℤ ((t *ℤ ((((h *ℤ h) *ℤ u) *ℤ s) *ℤ o)) *ℤ o) ≡ ((o *ℤ ((o *ℤ d) *ℤ u)) *ℤ ndv) *ℤ ((t *ℤ h) *ℤ (s *ℤ h))
printed-value t h u d s ndv = simp (one-mul, mul-one, products)

printed-holds : {side : Ends} (engine : Fraction) (ndv : ℕ) → 0 < ndv → Between side (whole (pos 42949672960000) *ᶠ engine)
    → Between (speed_of side ndv) (whole (pos 1000) *ᶠ (engine /ᶠ decimal (pos ndv) 100))
unfolding speed_of
printed-holds engine ndv some h =
    let positive : pos 0 <ℤ engine.den = rw one-mul at h.positive in
    same-value (divided-holds (scaled-holds (divided-holds h (pos 4294967296) (omega zs)) (pos 10)) (pos ndv) (omega zs)) (whole (pos 1000) *ᶠ (engine /ᶠ decimal (pos ndv) 100))
    (rw one-mul (mul-pos {b = pos ndv} positive (omega zs)))
    (printed-value (pos 10) (pos 100) (pos 4294967296) engine.den engine.num (pos ndv))

module _ {v : VehicleSheet} (sound : Sound v) (e : Fraction) (between : BetweenEnds v e) (i : ℕ) (l : i + 1 < v.gears) where
  abbrev engine : Fraction
  engine = engine_by v e (eqb i 0)

  held : Between (side_at (first_side v) (higher_side v) i) (whole side_unit *ᶠ engine)
  held = side-holds sound e between (eqb i 0)

  some : 0 < ndv_at v.ndv i
  some = omega (arith, (sound.ndv i (omega arith)).0)

  -- in 0.001 km/h
  upshift-printed : Between (upshift_at (shift_of v) i) (whole (pos 1000) *ᶠ exact_upshift v e i)
  unfolding upshift_at shift_of exact_upshift
  upshift-printed = rw (lt-ltb (i + 1) v.gears l) (printed-holds engine (ndv_at v.ndv i) some held)

  least-is : least_at (shift_of v) i ≡ least_of (side_at (first_side v) (higher_side v) i) (ndv_at v.ndv i)
  unfolding shift_of
  least-is = here (shift_of v) i l

  pub upshift-true : TrueSpeed v e i
  unfolding exact_upshift
  upshift-true =
      let side = side_at (first_side v) (higher_side v) i in
      let ndv = ndv_at v.ndv i in
      record {
        printed = upshift-printed;
        above = λ speed reached.
            let from = le-leb _ speed (subst (λ (t : LeastTenths). t.above ≤ speed) least-is reached) in
            above-truly engine held speed ndv (sym (above-by-tenths speed ndv some side) ∙ from);
        below = λ speed short.
            let before = lt-leb _ speed (subst (λ (t : LeastTenths). speed < t.not_below) least-is short) in
            below-truly engine held speed ndv (not-false _ (sym (not-below-by-tenths speed ndv some side) ∙ before));
      }
