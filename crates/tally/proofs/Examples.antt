-- The definitions compute: what is given of a gas over a few entries, and which ends are faulty. Assumes nothing.
use mathlib.Core.Path.{◌≡◌, refl}
use mathlib.Core.Bool.{true, false}
use mathlib.Core.List.{[], ◌∷◌}
use Prim.Native.Nat.{ℕ}
use lib.IntN.{ℤ, pos, neg_ℤ}
use Rattle.arith.specs.declared.Ends.{Ends}
use Rattle.arith.specs.Rounding.{div_down, div_up}
use Rattle.arith.specs.Stages.{exactly, sum_of, divided_by}
use Rattle.std.specs.Prelude.{None, Option, Some}
use Rattle.tally.specs.declared.Mean.{Mean}
use Rattle.tally.specs.Entries.{entry, faulty_ends, gas_sheet}

abbrev ends : ℤ → ℤ → Ends
ends lower upper = record { lower = lower; upper = upper }

abbrev mean : Ends → ℕ → Option Mean
mean ends worst = Some (record { ends = ends; worst = worst })

-- rounded outward on both sides of zero; of equal upper ends the earliest, by the index that its entry has
two : gas_sheet (entry 3 (ends (neg_ℤ (pos 4)) (pos 4)) 1 ∷ entry 5 (ends (pos 1) (pos 4)) 3 ∷ [])
    ≡ record { passed = 1; failed = 0; undecided = 1; sum = ends (neg_ℤ (pos 3)) (pos 8); mean = mean (ends (neg_ℤ (pos 2)) (pos 4)) 3 }
unfolding gas_sheet exactly sum_of divided_by div_down div_up
two = refl

-- a later upper end that is greater
later : gas_sheet (entry 0 (ends (pos 1) (pos 4)) 2 ∷ entry 1 (ends (pos 1) (pos 5)) 2 ∷ [])
    ≡ record { passed = 0; failed = 2; undecided = 0; sum = ends (pos 2) (pos 9); mean = mean (ends (pos 1) (pos 5)) 1 }
unfolding gas_sheet exactly sum_of divided_by div_down div_up
later = refl

-- a verdict that is no pass and no fail is undecided, whatever its number
others : gas_sheet (entry 0 (exactly (pos 0)) 0 ∷ entry 1 (exactly (pos 0)) 4 ∷ [])
    ≡ record { passed = 0; failed = 0; undecided = 2; sum = exactly (pos 0); mean = mean (exactly (pos 0)) 0 }
unfolding gas_sheet exactly sum_of divided_by div_down div_up
others = refl

none : gas_sheet [] ≡ record { passed = 0; failed = 0; undecided = 0; sum = ends (pos 0) (pos 0); mean = None }
unfolding gas_sheet exactly
none = refl

-- 10^13 itself is taken, one more is not, and so below zero; equal ends are in order
at-the-ends :
    (faulty_ends (ends (neg_ℤ (pos 10000000000000)) (pos 10000000000000)) ≡ false)
    × (faulty_ends (ends (pos 0) (pos 10000000000001)) ≡ true)
    × (faulty_ends (ends (neg_ℤ (pos 10000000000001)) (pos 0)) ≡ true)
    × (faulty_ends (ends (pos 1) (pos 1)) ≡ false)
    × (faulty_ends (ends (pos 2) (pos 1)) ≡ true)
unfolding faulty_ends
at-the-ends = (refl, refl, refl, refl, refl)
