-- 01, Shift speeds, and 02, M-101: the shift speeds of a vehicle, and a speed held against them in whole numbers. Gears and shift speeds count from 0 here.
use Rattle.std.specs.Prelude.{Bool, true, false, not, cond, ◌&&◌, ℕ, zero, suc, ◌+◌, ◌-◌, ◌*◌, ◌^◌, ◌≤◌, ◌<◌, List, get_or, eqb, ltb, ℤ, pos, ◌*ℤ◌}
use Rattle.std.specs.Int.Signed.{lt_z}
use Rattle.arith.specs.declared.Ends.{Ends}
use Rattle.arith.specs.Stages.{exactly, sum_of, difference_of, scaled_by}
use Rattle.vehicle.specs.declared.VehicleSheet.{VehicleSheet}
use Rattle.vehicle.specs.Engine.{lowest_engine_speed}
use Rattle.shift.specs.declared.Shift.{Shift}
use Rattle.shift.specs.Exponential.{exponential_of}

-- "x = 19 P / (100 (m + 75))"
abbrev pub power_of : VehicleSheet → Ends
power_of v = exponential_of (19 * v.power) (100 * (v.mass + 75))

-- "10,000 x 2^32 times the engine speed in the bracket, once with each end"
abbrev pub side_unit : ℤ
side_unit = pos (10000 * 2 ^ 32)

-- part (s - n) + n, where `part` is the fraction of it in these units
unfoldable pub side_of : Ends → ℕ → ℕ → Ends
side_of part span idle = sum_of (scaled_by (pos span) part) (exactly (side_unit *ℤ pos idle))

-- "0.5753", in 1/10,000
abbrev pub share : ℕ
share = 5753

-- "0.5753 e"
abbrev pub higher_part : VehicleSheet → Ends
higher_part v = scaled_by (pos share) (power_of v)

-- "0.5753 e - 0.1"
abbrev pub tenth : Ends
tenth = exactly (pos (1000 * 2 ^ 32))

abbrev pub first_part : VehicleSheet → Ends
first_part v = difference_of (higher_part v) tenth

-- upshift i to i+1, i = 2 to ng-1: "0.5753 e (s - n) + n"
unfoldable pub higher_side : VehicleSheet → Ends
higher_side v = side_of (higher_part v) (v.rated - v.idle) v.idle

-- upshift 1 to 2: "(0.5753 e - 0.1)(s - n) + n"
unfoldable pub first_side : VehicleSheet → Ends
first_side v = side_of (first_part v) (v.rated - v.idle) v.idle

-- all that a speed is held against: the shift speeds are one of the two sides over ndv, and under rule set 2 the lowest engine speed over ndv of gear 2 is one too
unfoldable pub shift_of : VehicleSheet → Shift
shift_of v = record { first = first_side v; higher = higher_side v; ndv = v.ndv; gears = v.gears; lowest = lowest_engine_speed v; rules = v.rules }

-- "10 x speed x ndv x 2^32"
abbrev pub left_of : ℕ → ℕ → ℤ
left_of speed ndv = pos (10 * 2 ^ 32) *ℤ (pos speed *ℤ pos ndv)

-- "Below the lower side is below; above the upper side is above; at either or between is too close to call"
abbrev pub below : ℕ → ℕ → Ends → Bool
below speed ndv side = lt_z (left_of speed ndv) side.lower

abbrev pub above : ℕ → ℕ → Ends → Bool
above speed ndv side = lt_z side.upper (left_of speed ndv)

abbrev pub too_close : ℕ → ℕ → Ends → Bool
too_close speed ndv side = not (below speed ndv side) && not (above speed ndv side)

-- the upshift from gear i. "Downshift 3 to 2: the upshift 1 to 2. Downshift i to i-1, i = 4 to ng: the upshift i-2 to i-1": the downshift speeds
-- are the first ng-2 of the upshift speeds
abbrev pub side_at : Ends → Ends → ℕ → Ends
side_at first higher i = cond (eqb i 0) first higher

abbrev pub above_at : Ends → Ends → List ℕ → ℕ → ℕ → Bool
above_at first higher ndv speed i = above speed (get_or ndv i 0) (side_at first higher i)

abbrev pub close_at : Ends → Ends → List ℕ → ℕ → ℕ → Bool
close_at first higher ndv speed i = too_close speed (get_or ndv i 0) (side_at first higher i)

-- how many of the first n
abbrev pub count : (ℕ → Bool) → ℕ → ℕ
count holds zero = 0
count holds (suc n) = count holds n + cond (holds n) 1 0

-- how many of n shift speeds a speed is above, and to how many it is too close
pub record Tally : Type 0 where
  pub above : ℕ
  pub close : ℕ

unfoldable pub tally_of : Ends → Ends → List ℕ → ℕ → ℕ → Tally
tally_of first higher ndv speed n =
    record { above = count (above_at first higher ndv speed) n; close = count (close_at first higher ndv speed) n }

-- a gear by the speed alone, and whether any comparison is too close to call
pub record Own : Type 0 where
  pub gear : ℕ
  pub close : Bool

-- so many more than the speeds it is above, and whether any of these comparisons is too close
abbrev pub own_by : Tally → ℕ → Own
own_by t base = record { gear = t.above + base; close = ltb 0 t.close }

abbrev pub against : Shift → ℕ → ℕ → Tally
against s speed n = tally_of s.first s.higher s.ndv speed n

-- rule set 1: 01, Gear of each second: "Acceleration: one more than the number of upshift speeds the speed is above. Cruise, deceleration: two more than the
-- number of downshift speeds it is above"
unfoldable pub by_set1 : Shift → Bool → ℕ → Own
by_set1 s true speed = own_by (against s speed (s.gears - 1)) 1
by_set1 s false speed = own_by (against s speed (s.gears - 2)) 2

-- 02, M-101: "a downshift 2 to 1 at (n + 0.03 (s - n)) / ndv2 .. compared exactly: gear 1 strictly below"
unfoldable pub below_second : Shift → ℕ → Bool
below_second s speed = ltb (speed * get_or s.ndv 1 0) s.lowest

-- rule set 2: acceleration as in set 1; "cruise and deceleration seconds below it are gear 1 .. gear 1 still goes first, and a second too close to any of the other
-- speeds is still refused"
unfoldable pub by_set2 : Shift → Bool → ℕ → Own
by_set2 s true speed = by_set1 s true speed
by_set2 s false speed = record { gear = cond (below_second s speed) 1 (by_set1 s false speed).gear; close = (by_set1 s false speed).close }

-- the seconds in gear 1 of which set 1 says nothing
abbrev pub goes_first : Shift → Bool → ℕ → Bool
goes_first s accelerates speed = (eqb s.rules 2 && not accelerates) && below_second s speed

-- by the rule set that the sheet names
unfoldable pub own_gear : Shift → Bool → ℕ → Own
own_gear s accelerates speed = cond (eqb s.rules 2) (by_set2 s accelerates speed) (by_set1 s accelerates speed)

-- the first n gears are there and in range
pub record InRange (ndv : List ℕ) (n : ℕ) : Type 0 where
  pub few : n ≤ 8
  pub ndvs : (i : ℕ) → i < n → get_or ndv i 0 ≤ 100000

-- what the shift speeds of an accepted sheet have
pub record ShiftRanges (s : Shift) : Type 0 where
  pub some : 3 ≤ s.gears
  pub range : InRange s.ndv s.gears
