-- The downshift 2 to 1 of an accepted sheet under rule set 2, as 004's equation 2.7 writes it, lies between the two ends that are printed. Assumes nothing.
use mathlib.Core.Path.{◌≡◌, sym, ap, subst}
use Prim.Native.Nat.{◌+◌, ◌-◌, ◌*◌}
use native.Mathlib.Omega.{arith}
use lib.IntN.{pos}
use lib.Signed.{◌<ℤ◌}
use borrow.Author.Tests.{eq-eqb}
use Rattle.arith.specs.Stages.{exactly, divided_by}
use Rattle.arith.specs.Fraction.{Fraction, whole, decimal, ◌+ᶠ◌, ◌*ᶠ◌, ◌/ᶠ◌, Between}
use Rattle.arith.proofs.Parts.{zs}
use Rattle.arith.proofs.Enclosure.{exactly-holds, divided-holds, same-value}
use Rattle.vehicle.specs.declared.VehicleSheet.{VehicleSheet}
use Rattle.vehicle.specs.Sheet.{ndv_at, Sound}
use Rattle.vehicle.specs.Engine.{lowest_engine_speed}
use Rattle.shift.specs.Speeds.{shift_of}
use Rattle.shift.specs.Cruise.{downshift}
use Rattle.shift.proofs.ExactSpeeds.{above-idle}
use Rattle.speeds.specs.Upshifts.{to_first}

-- in 0.001 km/h
pub first-contained : {v : VehicleSheet} → Sound v → v.rules ≡ 2 → (e : Fraction) → Between (to_first (shift_of v)) (whole (pos 1000) *ᶠ downshift v e 0)
unfolding to_first shift_of downshift
first-contained {v} sound set2 e =
    let n = v.idle in
    let w = v.rated - v.idle in
    let ndv = ndv_at v.ndv 1 in
    let some = (sound.ndv 1 (omega (arith, sound.ranged.gears.0))).0 in
    let positive : pos 0 <ℤ pos (1 * (100 * ndv)) = omega zs in
    let same : 1 * (100 * ndv) * (100 * (1000 * n + 30 * w) * 1) ≡ 1 * ndv * (1000 * ((100 * n + 1 * (3 * w)) * 100)) = omega arith in
    let printed = divided_by (exactly (pos (100 * lowest_engine_speed v))) (pos ndv) in
    let ends = divided-holds (exactly-holds (pos (100 * lowest_engine_speed v))) (pos ndv) (omega zs) in
    rw (eq-eqb v.rules 2 set2)
    (subst (λ (q : Fraction). Between printed (whole (pos 1000) *ᶠ ((whole (pos n) +ᶠ decimal (pos 3) 100 *ᶠ q) /ᶠ decimal (pos ndv) 100))) (sym (above-idle sound))
    (same-value ends _ positive (ap pos same)))
