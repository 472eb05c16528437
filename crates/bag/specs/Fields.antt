-- 01, Bag sheet and figures, the table: the range of each value, in the table's unit, both ends belonging to it. A number of the table stands here and
-- nowhere else in specs/: the checks (Sheet), what an accepted sheet tells (Sound) and what the stages ask name it.
use Rattle.std.specs.Prelude.{Bool, ℕ, ◌≤◌, ℤ, pos, negsuc}
use Rattle.refusal.specs.Ranges.{within}

pub record Range : Type 0 where
  pub least : ℕ
  pub most : ℕ

infix 5 ◌to◌
abbrev pub ◌to◌ : ℕ → ℕ → Range
least to most = record { least = least; most = most }

-- as a check, and what it tells
abbrev pub is_within : Range → ℕ → Bool
is_within r n = within r.least r.most n

abbrev pub Within : Range → ℕ → Type 0
Within r n = (r.least ≤ n) × (n ≤ r.most)

-- 1 pump volume, ml a revolution
abbrev pub pump_range : Range
pump_range = 100 to 20000

-- 2 revolutions; "with field 1 at most 10^9 ml"
abbrev pub revolutions_range : Range
revolutions_range = 1 to 100000

abbrev pub most_pumped : ℕ
most_pumped = 1000000000

-- 3 barometer, Pa
abbrev pub barometer_range : Range
barometer_range = 80000 to 110000

-- 4 inlet depression, Pa
abbrev pub depression_range : Range
depression_range = 0 to 20000

-- 5 inlet temperature, "signed, -400 to 1,500 in 0.1 degree C"
abbrev pub coldest : ℤ
coldest = negsuc 399

abbrev pub hottest : ℤ
hottest = pos 1500

-- 6 humidity, 0.1 percent
abbrev pub humidity_range : Range
humidity_range = 0 to 1000

-- 7 saturation pressure, Pa
abbrev pub saturation_range : Range
saturation_range = 0 to 12000

-- 8 distance, m
abbrev pub distance_range : Range
distance_range = 100 to 100000

-- 9 densities, mg per cubic metre
abbrev pub density_range : Range
density_range = 1 to 2100000

-- 10 dilution triple, tenths: D, and wc and wh
abbrev pub d_range : Range
d_range = 100 to 200

abbrev pub w_range : Range
w_range = 0 to 20

-- 11 fuel sheet: k in 1/10,000, three carbon factors in 1/1,000, fuel density in g/l
abbrev pub k_range : Range
k_range = 1 to 1500

abbrev pub factor_range : Range
factor_range = 0 to 1000

abbrev pub fuel_density_range : Range
fuel_density_range = 600 to 1000

-- 12 limits, "0 to 10^12 micrograms/km"
abbrev pub most_limit : ℕ
most_limit = 1000000000000

-- 13 efficiencies of the cutter (02, M-108), "0 to 1,000 thousandths"
abbrev pub efficiency_range : Range
efficiency_range = 0 to 1000
