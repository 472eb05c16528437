-- 02, M-106: "choose gears from those whole numbers". 01, Gear of each second, by the least tenths.
use Rattle.std.specs.Prelude.{Bool, true, false, not, cond, List, ℕ, ◌+◌, ◌-◌, get_or, eqb, leb, ltb}
use Rattle.shift.specs.Speeds.{count, Own}
use Rattle.tenths.specs.declared.Tenths.{Tenths}

-- how many of the first n a speed has reached
unfoldable pub reached : List ℕ → ℕ → ℕ → ℕ
reached least speed n = count (λ i. leb (get_or least i 0) speed) n

-- of all seven in acceleration; in cruise and deceleration the last upshift, which is one of them, is left out
unfoldable pub held : List ℕ → ℕ → Bool → ℕ → ℕ
held least last true speed = reached least speed 7
held least last false speed = reached least speed 7 - cond (leb last speed) 1 0

-- of a vehicle's: the upshifts that the speed is above, and those that it is not below. Where these are more, it is too close to one of them
abbrev pub above_held : Tenths → Bool → ℕ → ℕ
above_held t = held t.above t.last.above

abbrev pub not_below_held : Tenths → Bool → ℕ → ℕ
not_below_held t = held t.not_below t.last.not_below

abbrev pub close_by : Tenths → Bool → ℕ → Bool
close_by t accelerates speed = not (eqb (above_held t accelerates speed) (not_below_held t accelerates speed))

-- "Acceleration: one more than the number of upshift speeds the speed is above. Cruise, deceleration: two more than the number of downshift speeds it is above"; rule set 2's gear 1
-- goes first
unfoldable pub own_by_tenths : Tenths → Bool → ℕ → Own
own_by_tenths t true speed = record { gear = above_held t true speed + 1; close = close_by t true speed }
own_by_tenths t false speed = record { gear = cond (ltb speed t.first) 1 (above_held t false speed + 2); close = close_by t false speed }

-- "a mark where a tenth is too close", at each place; and whether there is any
abbrev pub mark_at : List ℕ → List ℕ → ℕ → Bool
mark_at above not_below i = ltb (get_or not_below i 0) (get_or above i 0)

unfoldable pub marked : Tenths → Bool
marked t = ltb 0 (count (mark_at t.above t.not_below) 7)
