-- 02, M-106: the shift speeds of a vehicle in whole tenths of a km/h: "the least tenth of a km/h above each (at or above, for rule set 2's 2 to 1 speed), with a mark where
-- a tenth is too close". Gears and shift speeds count from 0 here.
use Rattle.std.specs.Prelude.{cond, ℕ, ◌+◌, ◌-◌, ◌*◌, ◌^◌, get_or, eqb, ltb, ℤ, pos, negsuc, ◌+ℤ◌}
use Rattle.walk.specs.Walk.{listed}
use Rattle.arith.specs.declared.Ends.{Ends}
use Rattle.arith.specs.Rounding.{div_down, div_up}
use Rattle.shift.specs.declared.Shift.{Shift}
use Rattle.shift.specs.Speeds.{side_at}
use Rattle.tenths.specs.declared.Tenths.{Tenths}
use Rattle.tenths.specs.declared.LeastTenths.{LeastTenths}

-- 01's left side is "10 x speed x ndv x 2^32": so many for each tenth of the speed
abbrev pub tenth : ℕ → ℤ
tenth ndv = pos (10 * 2 ^ 32 * ndv)

-- the least speed at or above a whole number: none is negative
abbrev pub from_zero : ℤ → ℕ
from_zero (pos n) = n
from_zero (negsuc n) = 0

-- "Below the lower side is below; above the upper side is above": the least tenth above the upper side, and the least that is not below the lower one. Where
-- the two differ a tenth between them is too close to call
unfoldable pub least_of : Ends → ℕ → LeastTenths
least_of side ndv = record { above = from_zero (div_down side.upper (tenth ndv) +ℤ pos 1); not_below = from_zero (div_up side.lower (tenth ndv)) }

-- a number of tenths that no speed reaches, the highest being 2,000
abbrev pub out_of_reach : LeastTenths
out_of_reach = record { above = 65535; not_below = 65535 }

-- of the upshift from gear i; none past the last but one
unfoldable pub least_at : Shift → ℕ → LeastTenths
least_at s i = cond (ltb (i + 1) s.gears) (least_of (side_at s.first s.higher i) (get_or s.ndv i 0)) out_of_reach

-- the least speed at which an engine with this ratio turns no slower than `lowest`, in 0.001 per minute: compared exactly
abbrev pub not_below : ℕ → ℕ → ℕ
not_below lowest ndv = from_zero (div_up (pos lowest) (pos ndv))

-- 02, M-101: the downshift 2 to 1 is "compared exactly: gear 1 strictly below", so the least tenth at or above it. Rule set 1 has none, and no speed is below 0
unfoldable pub first_of : Shift → ℕ
first_of s = cond (eqb s.rules 2) (from_zero (div_up (pos s.lowest) (pos (get_or s.ndv 1 0)))) 0

-- always seven places, as many as eight gears have; and the last upshift, from gear ng - 1, once more
unfoldable pub tenths_of : Shift → Tenths
tenths_of s =
    record {
      above = listed (λ i. (least_at s i).above) 7;
      not_below = listed (λ i. (least_at s i).not_below) 7;
      last = least_at s (s.gears - 2);
      gears = s.gears;
      first = first_of s;
    }
