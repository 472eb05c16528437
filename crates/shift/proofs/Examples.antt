-- Comparisons at their edges, computed by the definitions themselves. Assumes nothing.
use mathlib.Core.Path.{◌≡◌, refl}
use mathlib.Core.Bool.{Bool, true, false}
use mathlib.Core.List.{[], ◌∷◌}
use Prim.Native.Nat.{ℕ}
use lib.IntN.{pos}
use Rattle.arith.specs.declared.Ends.{Ends}
use Rattle.arith.specs.Fraction.{Fraction, decimal}
use Rattle.arith.specs.Rounding.{div_down, div_up}
use Rattle.arith.specs.Stages.{exactly, sum_of, difference_of, scaled_by, divided_by}
use Rattle.vehicle.specs.declared.VehicleSheet.{VehicleSheet}
use Rattle.vehicle.proofs.Examples.{annex}
use Rattle.shift.specs.declared.Shift.{Shift}
use Rattle.shift.specs.Exact.{exact_first, exact_higher}
use Rattle.shift.specs.Cruise.{cruise_upshift}
use Rattle.shift.specs.Exponential.{next_term, term_of, with_term, sum_to, exponential_of}
use Rattle.shift.specs.Speeds.{side_of, higher_side, left_of, below, above, too_close, tally_of, by_set1, below_second, by_set2, own_gear, Own}

-- the ends of e for the machine with 72.0 kW and 199 kg: x is 13,680 / 27,400
ends : exponential_of 13680 27400 ≡ record { lower = pos 2606931512; upper = pos 2606931537 }
unfolding exponential_of sum_to with_term term_of next_term divided_by div_down div_up exactly sum_of difference_of scaled_by
ends = refl

-- ---- at the lower side a speed is too close. This sheet has one that is exactly there, 123.7 km/h in each gear from the second on
abbrev exact : VehicleSheet
exact = record { power = 1612; mass = 428; rated = 10540; idle = 300; gears = 3; ndv = 9000 ∷ 2833 ∷ 2800 ∷ 0 ∷ 0 ∷ 0 ∷ 0 ∷ 0 ∷ []; rules = 1 }

abbrev side : Ends
side = record { lower = left_of 1237 2833; upper = pos 150513737336924160 }

at-the-lower-side : higher_side exact ≡ side
unfolding higher_side side_of exponential_of sum_to with_term term_of next_term divided_by div_down div_up exactly sum_of difference_of scaled_by
at-the-lower-side = refl

too-close : (below 1237 2833 side ≡ false) × (too_close 1237 2833 side ≡ true)
too-close = (refl, refl)

a_tenth_less : below 1236 2833 side ≡ true
a_tenth_less = refl

a-tenth-more : above 1238 2833 side ≡ true
a-tenth-more = refl

-- ---- eight gears, of which the seventh is left at 30.0 km/h
abbrev machine_of : ℕ → ℕ → Shift
machine_of lowest rules = record {
  first = exactly (left_of 300 2000);
  higher = exactly (left_of 300 2000);
  ndv = 8000 ∷ 7000 ∷ 6000 ∷ 5000 ∷ 4000 ∷ 3000 ∷ 2000 ∷ 1000 ∷ [];
  gears = 8;
  lowest = lowest;
  rules = rules;
}

abbrev machine : Shift
machine = machine_of 280000 1

abbrev own : ℕ → Own
own gear = record { gear = gear; close = false }

-- the top upshift
past-the-top-upshift : own_gear machine true 301 ≡ own 8
unfolding own_gear by_set1 tally_of exactly
past-the-top-upshift = refl

before-the-top-upshift : own_gear machine true 299 ≡ own 7
unfolding own_gear by_set1 tally_of exactly
before-the-top-upshift = refl

at-the-top-upshift : own_gear machine true 300 ≡ record { gear = 7; close = true }
unfolding own_gear by_set1 tally_of exactly
at-the-top-upshift = refl

-- cruise and deceleration are not held against it, and start from gear 2
cruise-past-the-others : own_gear machine false 300 ≡ own 8
unfolding own_gear by_set1 tally_of exactly
cruise-past-the-others = refl

cruise-below-all : own_gear machine false 1 ≡ own 2
unfolding own_gear by_set1 tally_of exactly
cruise-below-all = refl

acceleration-below-all : own_gear machine true 1 ≡ own 1
unfolding own_gear by_set1 tally_of exactly
acceleration-below-all = refl

-- ---- rule set 2: 280.000 per minute are 4.0 km/h in gear 2, and gear 1 is strictly below
cruise : ℕ → Own
cruise speed = own_gear (machine_of 280000 2) false speed

below-the-downshift-2-to-1 : (cruise 39 ≡ own 1) × (cruise 40 ≡ own 2)
unfolding cruise own_gear by_set2 by_set1 below_second tally_of exactly
below-the-downshift-2-to-1 = (refl, refl)

-- a machine whose 2 to 1, at 9.0 km/h, lies above its 3 to 2, at 7.5: gear 1 goes first, and a speed too close to 3 to 2 stays too close
strong : Bool → ℕ → Own
strong accelerates speed = own_gear (machine_of 630000 2) accelerates speed

gear-1-goes-first : (strong false 80 ≡ own 1) × (strong false 75 ≡ record { gear = 1; close = true }) × (strong false 90 ≡ own 4)
unfolding strong own_gear by_set2 by_set1 below_second tally_of exactly
gear-1-goes-first = (refl, refl, refl)

-- acceleration is as in set 1
acceleration-of-set-2 : strong true 80 ≡ own 2
unfolding strong own_gear by_set2 by_set1 tally_of exactly
acceleration-of-set-2 = refl

-- ---- 004's cruise upshifts of Annex 13's machine, from an e of 1/2: 2-7a, 2-8, and 2-9 for i = 3, over ndv2
half : Fraction
half = decimal (pos 1) 2

cruise-upshifts :
    (cruise_upshift annex half 0 ≡ decimal (pos 14695000) 949100)
    × (cruise_upshift annex half 1 ≡ decimal (pos 62969450000) 2673200000)
    × (cruise_upshift annex half 2 ≡ decimal (pos 8426945000) 189820000)
unfolding half cruise_upshift exact_first exact_higher
cruise-upshifts = (refl, refl, refl)
