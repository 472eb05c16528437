-- What is promised of the lot sheet (02, M-105 and M-108) beyond its definitions. The theorems are those of proofs/Lots.antt, for every list of records that is answered with a
-- sheet; when it is refused, claims/specs/Table.antt says.
use Rattle.std.specs.Prelude.{◌≡◌, true, cond, List, [], ◌∷◌, ℕ, ◌+◌, ◌<◌, length, get_or, ℤ, ◌≤ℤ◌, ◌<ℤ◌, None, Ok, Option, Some}
use Rattle.arith.specs.Fraction.{Fraction, ◌+ᶠ◌, ◌/ᶠ◌, Between}
use Rattle.refusal.specs.declared.Gas.{Gas}
use Rattle.bag.specs.declared.BagSheet.{BagSheet}
use Rattle.sides.specs.Gases.{ends_at, nothing}
use Rattle.emission.specs.declared.TestResult.{TestResult}
use Rattle.tally.specs.declared.Mean.{Mean}
use Rattle.emission.specs.Test.{test_answer}
use Rattle.record.specs.declared.Record.{Record}
use Rattle.record.specs.Record.{each_number, has_gas, record_of}
use Rattle.tally.specs.declared.GasSheet.{GasSheet}
use Rattle.claims.specs.Exact.{TestPpm, TestMeasured, count, has, exact_weighted}

-- the records that have a gas: all have the first four
abbrev pub having : Gas → List Record → List Record
having gas [] = []
having gas (r ∷ rs) = cond (has_gas gas r) (r ∷ having gas rs) (having gas rs)

-- ---- "The three counts add up to the number of records", of those that have it
abbrev pub AddUp : Gas → List Record → GasSheet → Type 0
AddUp gas rs g = g.passed + g.failed + g.undecided ≡ length (having gas rs)

-- ---- "the index, from 0, of the record with the greatest upper end, earliest if several". What lies past the end of a list is asked for nowhere
abbrev pub blank : Record
blank = record { weighted = nothing; verdicts = each_number (λ gas. 0); has_nmhc = 0 }

abbrev pub upper_at : Gas → List Record → ℕ → ℤ
upper_at gas rs k = (ends_at gas (get_or rs k blank).weighted).upper

-- the record at k has the gas
abbrev pub HasAt : Gas → List Record → ℕ → Type 0
HasAt gas rs k = has_gas gas (get_or rs k blank) ≡ true

-- an index is the place in the whole list
pub record Worst (gas : Gas) (rs : List Record) (index : ℕ) : Type 0 where
  pub within : index < length rs
  pub there : HasAt gas rs index
  pub greatest : (k : ℕ) → k < length rs → HasAt gas rs k → upper_at gas rs k ≤ℤ upper_at gas rs index
  pub earliest : (k : ℕ) → k < index → HasAt gas rs k → upper_at gas rs k <ℤ upper_at gas rs index

-- where there is a mean, its index is that; and there is one exactly where a record has the gas
abbrev pub WorstIn : Gas → List Record → Option Mean → Type 0
WorstIn gas rs None = having gas rs ≡ []
WorstIn gas rs (Some mean) = Worst gas rs mean.worst

-- ---- "the exact mean": of the records' exact figures, which are fractions
abbrev pub exact_sum : List Fraction → Fraction
exact_sum [] = count 0
exact_sum (q ∷ qs) = q +ᶠ exact_sum qs

abbrev pub exact_mean : List Fraction → Fraction
exact_mean qs = exact_sum qs /ᶠ count (length qs)

-- each record's exact figure is between its ends
abbrev pub AllBetween : Gas → List Record → List Fraction → Type 0
AllBetween gas [] [] = Unit {0}
AllBetween gas [] (q ∷ qs) = ⊥
AllBetween gas (r ∷ rs) [] = ⊥
AllBetween gas (r ∷ rs) (q ∷ qs) = Between (ends_at gas r.weighted) q × AllBetween gas rs qs

-- "the exact mean lies between the ends", where there is a mean
abbrev pub MeanHolds : Option Mean → Fraction → Type 0
MeanHolds None q = Unit {0}
MeanHolds (Some mean) q = Between mean.ends q

-- ---- "for records of accepted tests": a bag sheet, the exact values of its messages, and the result that it is answered with
pub record Test : Type 0 where
  pub sheet : BagSheet
  pub values : TestPpm
  pub result : TestResult
  pub measured : TestMeasured sheet values
  pub accepted : test_answer sheet ≡ Ok result

abbrev pub records_of : List Test → List Record
records_of [] = []
records_of (t ∷ ts) = record_of t.result ∷ records_of ts

-- of the tests that have the gas
abbrev pub exacts_of : Gas → List Test → List Fraction
exacts_of gas [] = []
exacts_of gas (t ∷ ts) = cond (has t.sheet gas) (exact_weighted gas t.sheet t.values ∷ exacts_of gas ts) (exacts_of gas ts)
