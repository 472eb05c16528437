-- One gas over the records of a lot (02, M-105): "how many passed, failed and were undecided; the sums of lower and of upper ends; the mean's ends rounded
-- outward; the index .. of the record with the greatest upper end, earliest if several". It is said of a list of entries, one for each record that has the gas,
-- so that each sentence is said once for every gas.
use Rattle.std.specs.Prelude.{Bool, cond, not, ◌||◌, List, [], ◌∷◌, ℕ, ◌+◌, eqb, length, ℤ, pos, neg_ℤ, None, Option, Some}
use Rattle.std.specs.Int.Signed.{le_z, lt_z}
use Rattle.arith.specs.declared.Ends.{Ends}
use Rattle.arith.specs.Stages.{exactly, sum_of, divided_by, larger}
use Rattle.tally.specs.declared.Mean.{Mean}
use Rattle.tally.specs.declared.GasSheet.{GasSheet}

-- the record's index, the ends, and the verdict's number
pub record Entry : Type 0 where
  pub at : ℕ
  pub ends : Ends
  pub verdict : ℕ

abbrev pub entry : ℕ → Ends → ℕ → Entry
entry at ends verdict = record { at = at; ends = ends; verdict = verdict }

-- ---- "how many passed, failed and were undecided": 1 is a pass and 2 a fail; every other number is undecided
abbrev pub passes : Entry → Bool
passes e = eqb e.verdict 1

abbrev pub fails : Entry → Bool
fails e = eqb e.verdict 2

abbrev pub undecides : Entry → Bool
undecides e = not (passes e || fails e)

abbrev pub plus_if : Bool → ℕ → ℕ
plus_if holds n = cond holds (n + 1) n

abbrev pub how_many : (Entry → Bool) → List Entry → ℕ
how_many p [] = 0
how_many p (e ∷ es) = plus_if (p e) (how_many p es)

-- ---- "the sums of lower and of upper ends"
abbrev pub sum_over : List Entry → Ends
sum_over [] = exactly (pos 0)
sum_over (e ∷ es) = sum_of e.ends (sum_over es)

-- ---- "an end beyond 10^13 micrograms/km either way", "a lower end above its upper end"
abbrev pub most_end : ℕ
most_end = 10000000000000

abbrev pub least_end : ℤ
least_end = neg_ℤ (pos most_end)

abbrev pub beyond : ℤ → Bool
beyond n = lt_z n least_end || lt_z (pos most_end) n

unfoldable pub faulty_ends : Ends → Bool
faulty_ends e = lt_z e.upper e.lower || (beyond e.lower || beyond e.upper)

-- ---- "the record with the greatest upper end, earliest if several". Of none it is the least end that is not faulty, which no entry's is below
abbrev pub greatest_of : List Entry → ℤ
greatest_of [] = least_end
greatest_of (e ∷ es) = larger (greatest_of es) e.ends.upper

abbrev pub worst_of : List Entry → ℕ
worst_of [] = 0
worst_of (e ∷ es) = cond (le_z (greatest_of es) e.ends.upper) e.at (worst_of es)

-- ---- "the mean's ends rounded outward"; "An empty list gives .. no mean and no index"
abbrev pub mean_of : List Entry → Option Mean
mean_of [] = None
mean_of (e ∷ es) = Some (record { ends = divided_by (sum_over (e ∷ es)) (pos (length (e ∷ es))); worst = worst_of (e ∷ es) })

-- ---- all that is given of a gas
unfoldable pub gas_sheet : List Entry → GasSheet
gas_sheet es = record { passed = how_many passes es; failed = how_many fails es; undecided = how_many undecides es; sum = sum_over es; mean = mean_of es }
