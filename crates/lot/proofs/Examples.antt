-- The definitions compute: a lot of two records, an empty one, the earliest of several faults, 256 records and 257. Assumes nothing.
use mathlib.Core.Path.{◌≡◌, refl}
use mathlib.Core.List.{List, [], ◌∷◌}
use Prim.Native.Nat.{ℕ, zero, suc}
use lib.IntN.{ℤ, pos, neg_ℤ}
use Rattle.std.specs.Prelude.{None, Option, Some, Ok, Err}
use Rattle.arith.specs.declared.Ends.{Ends}
use Rattle.arith.specs.Rounding.{div_down, div_up}
use Rattle.arith.specs.Stages.{exactly, sum_of, divided_by}
use Rattle.refusal.specs.declared.Refusal.TheVariants.{LotSize, LotRecord}
use Rattle.record.specs.declared.Record.{Record}
use Rattle.tally.specs.declared.GasSheet.{GasSheet}
use Rattle.tally.specs.declared.Mean.{Mean}
use Rattle.tally.specs.Entries.{faulty_ends, gas_sheet}
use Rattle.lot.specs.Lot.{each_sheet, sheet_of, faulty, lot_answer}

abbrev ends : ℤ → ℤ → Ends
ends lower upper = record { lower = lower; upper = upper }

abbrev mean : Ends → ℕ → Option Mean
mean ends worst = Some (record { ends = ends; worst = worst })

abbrev all : Ends → ℕ → Record
all e v = record { weighted = record { hc = e; co = e; nox = e; co2 = e; nmhc = e }; verdicts = record { hc = v; co = v; nox = v; co2 = v; nmhc = v }; has_nmhc = 1 }

abbrev gas : GasSheet
gas = record { passed = 1; failed = 0; undecided = 1; sum = ends (neg_ℤ (pos 3)) (pos 8); mean = mean (ends (neg_ℤ (pos 2)) (pos 4)) 0 }

abbrev no_gas : GasSheet
no_gas = record { passed = 0; failed = 0; undecided = 0; sum = ends (pos 0) (pos 0); mean = None }

two : lot_answer (all (ends (neg_ℤ (pos 4)) (pos 4)) 1 ∷ all (ends (pos 1) (pos 4)) 3 ∷ []) ≡ Ok (record { hc = gas; co = gas; nox = gas; co2 = gas; nmhc = gas })
unfolding lot_answer sheet_of each_sheet gas_sheet faulty faulty_ends exactly sum_of divided_by div_down div_up
two = refl

none : lot_answer [] ≡ Ok (record { hc = no_gas; co = no_gas; nox = no_gas; co2 = no_gas; nmhc = no_gas })
unfolding lot_answer sheet_of each_sheet gas_sheet exactly
none = refl

-- the second record has its fault in the last gas, the third in the first
abbrev late : Record
late = record { weighted = record { hc = ends (pos 1) (pos 1); co = ends (pos 1) (pos 1); nox = ends (pos 1) (pos 1); co2 = ends (pos 2) (pos 1); nmhc = ends (pos 1) (pos 1) }; verdicts = (all (ends (pos 1) (pos 1)) 1).verdicts; has_nmhc = 1 }

fault : lot_answer (all (ends (pos 1) (pos 10000000000000)) 1 ∷ late ∷ all (ends (pos 1) (pos 10000000000001)) 3 ∷ []) ≡ Err (LotRecord 1)
unfolding lot_answer faulty faulty_ends
fault = refl

-- ---- how many
abbrev copies : ℕ → Record → List Record
copies zero r = []
copies (suc n) r = r ∷ copies n r

-- 18 goes before 21: every record of these is faulty
too_many : lot_answer (copies 257 late) ≡ Err LotSize
unfolding lot_answer
too_many = refl

just_enough : lot_answer (copies 256 late) ≡ Err (LotRecord 0)
unfolding lot_answer faulty faulty_ends
just_enough = refl

-- ---- the fifth gas (02, M-108): read where a record has it, and its index is the place in the whole list
abbrev four : Ends → Ends → Record
four e fifth = record { weighted = record { hc = e; co = e; nox = e; co2 = e; nmhc = fifth }; verdicts = record { hc = 1; co = 1; nox = 1; co2 = 1; nmhc = 0 }; has_nmhc = 0 }

abbrev of_two : GasSheet
of_two = record { passed = 1; failed = 0; undecided = 1; sum = ends (pos 2) (pos 8); mean = mean (ends (pos 1) (pos 4)) 0 }

abbrev of_the_second : GasSheet
of_the_second = record { passed = 0; failed = 0; undecided = 1; sum = ends (pos 1) (pos 4); mean = mean (ends (pos 1) (pos 4)) 1 }

-- the first record's fifth would be faulty
one-has-it : lot_answer (four (ends (pos 1) (pos 4)) (ends (pos 2) (pos 1)) ∷ all (ends (pos 1) (pos 4)) 3 ∷ [])
    ≡ Ok (record { hc = of_two; co = of_two; nox = of_two; co2 = of_two; nmhc = of_the_second })
unfolding lot_answer sheet_of each_sheet gas_sheet faulty faulty_ends exactly sum_of divided_by div_down div_up
one-has-it = refl

abbrev of_one : GasSheet
of_one = record { passed = 1; failed = 0; undecided = 0; sum = ends (pos 1) (pos 4); mean = mean (ends (pos 1) (pos 4)) 0 }

none-has-it : lot_answer (four (ends (pos 1) (pos 4)) (ends (pos 2) (pos 1)) ∷ []) ≡ Ok (record { hc = of_one; co = of_one; nox = of_one; co2 = of_one; nmhc = no_gas })
unfolding lot_answer sheet_of each_sheet gas_sheet faulty faulty_ends exactly sum_of divided_by div_down div_up
none-has-it = refl
