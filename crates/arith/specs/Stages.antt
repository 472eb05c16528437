-- What the stages of 01 do with pairs of ends (01, Bag sheet and figures: "Every stage gives a lower end rounded down and an upper end rounded
-- up; a product of ends takes the smallest and largest outcome").
use Rattle.std.specs.Prelude.{cond, ℤ, ◌+ℤ◌, ◌-ℤ◌, ◌*ℤ◌}
use Rattle.std.specs.Int.Signed.{le_z}
use Rattle.arith.specs.declared.Ends.{Ends}
use Rattle.arith.specs.Rounding.{div_down, div_up}

abbrev pub smaller : ℤ → ℤ → ℤ
smaller m n = cond (le_z m n) m n

abbrev pub larger : ℤ → ℤ → ℤ
larger m n = cond (le_z m n) n m

-- a number that is known exactly is both its ends
unfoldable pub exactly : ℤ → Ends
exactly n = record { lower = n; upper = n }

unfoldable pub sum_of : Ends → Ends → Ends
sum_of a b = record { lower = a.lower +ℤ b.lower; upper = a.upper +ℤ b.upper }

-- the smallest difference is from the lower end to the other's upper end
unfoldable pub difference_of : Ends → Ends → Ends
difference_of a b = record { lower = a.lower -ℤ b.upper; upper = a.upper -ℤ b.lower }

-- a number of either sign times ends: the smaller and the larger outcome
unfoldable pub scaled_by : ℤ → Ends → Ends
scaled_by k a = record { lower = smaller (k *ℤ a.lower) (k *ℤ a.upper); upper = larger (k *ℤ a.lower) (k *ℤ a.upper) }

-- the narrowest ends that hold both
unfoldable pub hull_of : Ends → Ends → Ends
hull_of a b = record { lower = smaller a.lower b.lower; upper = larger a.upper b.upper }

-- the smallest and the largest of the four products of ends
unfoldable pub product_of : Ends → Ends → Ends
unfolding scaled_by hull_of
product_of a b = hull_of (scaled_by a.lower b) (scaled_by a.upper b)

-- ends divided by a positive number, rounded outward
unfoldable pub divided_by : Ends → ℤ → Ends
divided_by a d = record { lower = div_down a.lower d; upper = div_up a.upper d }
