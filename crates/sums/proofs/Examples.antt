-- The sums and the gears by them, computed by the definitions themselves. Assumes nothing.
use mathlib.Core.Path.{◌≡◌, refl}
use mathlib.Core.Bool.{Bool, true, false}
use Prim.Native.Nat.{ℕ, ◌^◌}
use lib.IntN.{pos}
use lib.Signed.{le_z_yes, lt_z_yes}
use Rattle.arith.specs.Fraction.{whole, decimal, ◌*ᶠ◌, Between}
use Rattle.vehicle.specs.declared.VehicleSheet.{VehicleSheet}
use Rattle.vehicle.proofs.Examples.{annex}
use Rattle.shift.specs.Exponential.{factorial, exact_term}
use Rattle.shift.specs.Exact.{exact_first, exact_higher, exact_upshift}
use Rattle.shift.specs.Cruise.{downshift}
use Rattle.sums.specs.Sums.{alternating, exact_sum, exact_power}
use Rattle.sums.specs.Rows.{exact_by_set1, exact_by_set2, exact_gear}

-- x is 1/2: 1 - 1/2 + 1/8 - 1/48 is 29/48, with nothing reduced
half-to-3 : exact_sum 1 2 3 ≡ decimal (pos 464) 768
unfolding factorial exact_term alternating
half-to-3 = refl

-- Annex 13's machine, x is 13,680 / 27,400: its ends are 2,606,931,512 and 2,606,931,537 (shift/proofs/Examples.antt), and the sum to 24 is 2,606,931,522.9 units
annex-to-24 : Between (record { lower = pos 2606931522; upper = pos 2606931523 }) (whole (pos (2 ^ 32)) *ᶠ exact_power annex 24)
unfolding factorial exact_term alternating
annex-to-24 = record { positive = lt_z_yes tt; above = le_z_yes tt; below = le_z_yes tt }

-- its upshift 2 to 3 is at 51.3 km/h and a little, 4 to 3 too; rule set 2 has 2 to 1 at 15.48
abbrev gear_of : ℕ → Bool → ℕ → ℕ
gear_of rules accelerates speed =
    let v : VehicleSheet = record { power = annex.power; mass = annex.mass; rated = annex.rated; idle = annex.idle; gears = annex.gears; ndv = annex.ndv; rules = rules } in
    exact_gear v (exact_power v 24) accelerates speed

acceleration-at-51-3 : (gear_of 1 true 513 ≡ 2) × (gear_of 1 true 514 ≡ 3) × (gear_of 2 true 513 ≡ 2) × (gear_of 2 true 514 ≡ 3)
unfolding exact_gear exact_by_set1 exact_by_set2 exact_upshift exact_first exact_higher factorial exact_term alternating
acceleration-at-51-3 = (refl, refl, refl, refl)

cruise-at-51-3 : (gear_of 1 false 513 ≡ 3) × (gear_of 1 false 514 ≡ 4) × (gear_of 2 false 513 ≡ 3) × (gear_of 2 false 514 ≡ 4)
unfolding exact_gear exact_by_set1 exact_by_set2 exact_upshift exact_first exact_higher downshift factorial exact_term alternating
cruise-at-51-3 = (refl, refl, refl, refl)

cruise-at-15-5 : (gear_of 1 false 154 ≡ 2) × (gear_of 2 false 154 ≡ 1) × (gear_of 2 false 155 ≡ 2)
unfolding exact_gear exact_by_set1 exact_by_set2 exact_upshift exact_first exact_higher downshift factorial exact_term alternating
cruise-at-15-5 = (refl, refl, refl)
