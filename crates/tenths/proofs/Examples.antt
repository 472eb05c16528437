-- Least tenths at their edges, computed by the definitions themselves. Assumes nothing.
use mathlib.Core.Path.{◌≡◌, refl}
use mathlib.Core.Bool.{Bool, true, false}
use mathlib.Core.List.{[], ◌∷◌}
use Prim.Native.Nat.{ℕ}
use lib.IntN.{pos, negsuc}
use Rattle.walk.specs.Walk.{listed}
use Rattle.arith.specs.declared.Ends.{Ends}
use Rattle.arith.specs.Rounding.{div_down, div_up}
use Rattle.arith.specs.Stages.{exactly}
use Rattle.shift.specs.declared.Shift.{Shift}
use Rattle.shift.specs.Speeds.{left_of, Own}
use Rattle.tenths.specs.declared.LeastTenths.{LeastTenths}
use Rattle.tenths.specs.declared.Tenths.{Tenths}
use Rattle.tenths.specs.Least.{least_of, least_at, first_of, tenths_of}
use Rattle.tenths.specs.Choice.{reached, held, own_by_tenths, marked}

-- ---- one side, at ndv 28.33: the higher side of the sheet of shift's examples has its lower end exactly at 123.7 km/h, which is too close
abbrev between : Ends → LeastTenths
between side = least_of side 2833

a-marked-tenth : between (record { lower = left_of 1237 2833; upper = pos 150513737336924160 }) ≡ record { above = 1238; not_below = 1237 }
unfolding least_of div_down div_up
a-marked-tenth = refl

-- one unit above it the tenth is below, and nothing is too close; at the upper end it is too close too
just-above : between (record { lower = pos 150513735864156161; upper = pos 150513737336924160 }) ≡ record { above = 1238; not_below = 1238 }
unfolding least_of div_down div_up
just-above = refl

at-the-upper-side : between (record { lower = pos 150513735864155160; upper = left_of 1237 2833 }) ≡ record { above = 1238; not_below = 1237 }
unfolding least_of div_down div_up
at-the-upper-side = refl

-- no speed is negative
below-zero : between (record { lower = negsuc 900000000000000; upper = negsuc 100 }) ≡ record { above = 0; not_below = 0 }
unfolding least_of div_down div_up
below-zero = refl

-- ---- five gears, of which the fourth is left at 30.0 km/h exactly, and 280.000 per minute are 4.0 km/h in gear 2
abbrev machine_of : ℕ → Shift
machine_of rules = record {
  first = exactly (left_of 300 5000);
  higher = exactly (left_of 300 5000);
  ndv = 8000 ∷ 7000 ∷ 6000 ∷ 5000 ∷ 4000 ∷ 0 ∷ 0 ∷ 0 ∷ [];
  gears = 5;
  lowest = 280000;
  rules = rules;
}

abbrev tenths_by : ℕ → Tenths
tenths_by first =
    record {
      above = 188 ∷ 215 ∷ 251 ∷ 301 ∷ 65535 ∷ 65535 ∷ 65535 ∷ [];
      not_below = 188 ∷ 215 ∷ 250 ∷ 300 ∷ 65535 ∷ 65535 ∷ 65535 ∷ [];
      last = record { above = 301; not_below = 300 };
      gears = 5;
      first = first;
    }

of-either-set : (tenths_of (machine_of 1) ≡ tenths_by 0) × (tenths_of (machine_of 2) ≡ tenths_by 40)
unfolding tenths_of listed least_at least_of first_of exactly div_down div_up
of-either-set = (refl, refl)

-- at the marked tenth an acceleration second is too close, and a cruise second is not held against the last upshift
own : Bool → ℕ → Own
own accelerates speed = own_by_tenths (tenths_by 40) accelerates speed

at-the-mark : (own true 300 ≡ record { gear = 4; close = true }) × (own false 300 ≡ record { gear = 5; close = false }) × (own true 301 ≡ record { gear = 5; close = false })
unfolding own own_by_tenths held reached
at-the-mark = (refl, refl, refl)

-- gear 1 is strictly below 4.0 km/h
at-2-to-1 : (own false 39 ≡ record { gear = 1; close = false }) × (own false 40 ≡ record { gear = 2; close = false })
unfolding own own_by_tenths held reached
at-2-to-1 = (refl, refl)

has-a-mark : marked (tenths_by 0) ≡ true
unfolding marked
has-a-mark = refl
