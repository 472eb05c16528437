-- Document 004's own cruise upshifts change nothing: each is the downshift speed of the gear above, and the gear that they give a second is the gear that the core
-- gives it under rule set 2, as fractions. Assumes nothing.
use mathlib.Core.Path.{◌≡◌, refl, sym, ap, ◌∙◌}
use mathlib.Core.Bool.{false, not, cond, ◌&&◌}
use Prim.Native.Nat.{ℕ, zero, suc, ◌+◌, ◌-◌, ◌<◌}
use native.Mathlib.Omega.{arith}
use lib.Dec.{ltb}
use lib.IntN.{ℤ, pos, ◌*ℤ◌}
use borrow.Author.Tests.{eq-eqb, ne_eqb}
use Rattle.arith.specs.Fraction.{Fraction, ◌*ᶠ◌, ◌/ᶠ◌}
use lib.Signed.{◌<ℤ◌, lt_z}
use Rattle.arith.proofs.Parts.{zs}
use Rattle.arith.proofs.Ring.{products}
use Rattle.vehicle.specs.declared.VehicleSheet.{VehicleSheet}
use Rattle.vehicle.specs.Sheet.{Sound}
use Rattle.shift.specs.Speeds.{power_of, first_side, higher_side, above_at, close_at, tally_of, shift_of, by_set1, below_second, by_set2, own_gear}
use Rattle.shift.specs.Exact.{exact_upshift, exact_speed, exact_lowest, from_units, less}
use Rattle.shift.specs.Cruise.{ratio, downshift, cruise_upshift, above_it, below_it, gear_between}
use Rattle.shift.proofs.Counting.{count_same}
use Rattle.shift.proofs.ExactSpeeds.{lowest-exactly, compared-exactly}
use Rattle.shift.proofs.Sets.{second-lowest}

-- 2-7a is 2.7, 2-8 is 2-6, and 2-9 is 2-5 of the gear above
pub same-speed : (v : VehicleSheet) (e : Fraction) (i : ℕ) → cruise_upshift v e i ≡ downshift v e i
unfolding cruise_upshift downshift
same-speed v e zero = refl
same-speed v e (suc zero) = refl
same-speed v e (suc (suc i)) = refl

-- so they give the same gear
pub same-gear : (v : VehicleSheet) (speed : ℕ) → gear_between v (cruise_upshift v) speed ≡ gear_between v (downshift v) speed
same-gear v speed = ap (λ (f : Fraction → ℕ → Fraction). gear_between v f speed) (λ i e j. same-speed v e j i)

-- past the first gear they are the upshift speeds of 01, of the gear before
pub upshift-is : (v : VehicleSheet) (e : Fraction) (i : ℕ) → cruise_upshift v e (suc i) ≡ exact_upshift v e i
unfolding cruise_upshift exact_upshift
upshift-is v e zero = refl
upshift-is v e (suc i) = rw (ne_eqb (suc i) 0 (λ h. omega arith))

-- p q < r is p < r / q, as it is said without a division
less-over : (p q r : Fraction) → less (p *ᶠ q) r ≡ less p (r /ᶠ q)
less-over p q r =
    let left : r.den *ℤ (p.num *ℤ q.num) ≡ (r.den *ℤ q.num) *ℤ p.num = simp products in
    let right : (p.den *ℤ q.den) *ℤ r.num ≡ p.den *ℤ (r.num *ℤ q.den) = simp products in
    (λ i. lt_z (left i) (right i))

module _ {v : VehicleSheet} (sound : Sound v) (speed : ℕ) where
  -- 2 to 1: the speed is below it exactly where the engine in gear 2 is slower than the lowest engine speed
  pub second-exactly : (e : Fraction) → below_second (shift_of v) speed ≡ less (exact_speed speed) (cruise_upshift v e zero)
  unfolding cruise_upshift
  second-exactly e = second-lowest v speed ∙ lowest-exactly sound 2 speed ∙ less-over (exact_speed speed) (ratio v 1) (exact_lowest v)

  -- every one of these speeds has a positive denominator, so that `less` says what it means
  pub speed-positive : (end : ℤ) (i : ℕ) → i < v.gears → pos 0 <ℤ (cruise_upshift v (from_units end) i).den
  unfolding cruise_upshift
  speed-positive end zero l = let h = (sound.ndv 1 (omega (arith, sound.ranged.gears.0))).0 in omega zs
  speed-positive end (suc i) l = rw (upshift-is v (from_units end) i) ((compared-exactly sound i speed (omega arith)).positive end)

  above_same : (i : ℕ) → i < v.gears → above_at (first_side v) (higher_side v) v.ndv speed i ≡ above_it v (cruise_upshift v) speed i
  above_same i l = (compared-exactly sound i speed l).is_above ∙ ap (λ (q : Fraction). less q (exact_speed speed)) (sym (upshift-is v _ i))

  close-same : (i : ℕ) → i < v.gears
      → close_at (first_side v) (higher_side v) v.ndv speed i ≡ (not (below_it v (cruise_upshift v) speed i) && not (above_it v (cruise_upshift v) speed i))
  close-same i l =
      let below-same = (compared-exactly sound i speed l).is_below ∙ ap (λ (q : Fraction). less (exact_speed speed) q) (sym (upshift-is v _ i)) in
      (λ k. not (below-same k) && not (above_same i l k))

  -- the gear of a cruise or deceleration second under rule set 2 is the one by 004's cruise upshift speeds
  pub cruise-gear : v.rules ≡ 2 → own_gear (shift_of v) false speed ≡ gear_between v (cruise_upshift v) speed
  unfolding own_gear by_set2 by_set1 tally_of shift_of gear_between
  cruise-gear set2 =
      let some = sound.ranged.gears.0 in
      let counted = count_same _ _ (v.gears - 2) (λ i l. above_same i (omega arith)) in
      let close = count_same _ _ (v.gears - 2) (λ i l. close-same i (omega arith)) in
      rw (eq-eqb v.rules 2 set2) (λ i. record { gear = cond (second-exactly (from_units (power_of v).lower) i) 1 (counted i + 2); close = ltb 0 (close i) })
