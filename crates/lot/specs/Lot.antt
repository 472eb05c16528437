-- The lot sheet (02, M-105 and M-108): "Over a lent list of result records, at most 256, give per gas: ..". What is given of a gas is gas_sheet of tally, of its entries.
use Rattle.std.specs.Prelude.{Bool, cond, ◌&&◌, ◌||◌, List, [], ◌∷◌, ℕ, suc, leb, length, Ok, Err, Result}
use Rattle.std.proofs.Math.Option.{Option, none, some}
use Rattle.refusal.specs.declared.Gas.{Gas}
use Rattle.refusal.specs.declared.Gas.TheVariants.{HC, CO, NOx, CO2, NMHC}
use Rattle.refusal.specs.declared.Refusal.{Refusal}
use Rattle.refusal.specs.declared.Refusal.TheVariants.{LotSize, LotRecord}
use Rattle.bag.specs.Gas.{among}
use Rattle.sides.specs.Gases.{ends_at}
use Rattle.record.specs.declared.Record.{Record}
use Rattle.record.specs.Record.{number_at, has_gas}
use Rattle.tally.specs.declared.GasSheet.{GasSheet}
use Rattle.tally.specs.Entries.{Entry, entry, faulty_ends, gas_sheet}
use Rattle.lot.specs.declared.LotSheet.{LotSheet}

-- ---- a gas of a record, and of every record, the first one's index being `at`: "The verdicts counted are those in the records"
abbrev pub entry_at : Gas → ℕ → Record → Entry
entry_at gas at r = entry at (ends_at gas r.weighted) (number_at gas r.verdicts)

-- 02, M-108: "For it the lot sheet .. reads only records that have it". An entry keeps its record's index
abbrev pub entries_from : Gas → ℕ → List Record → List Entry
entries_from gas at [] = []
entries_from gas at (r ∷ rs) = cond (has_gas gas r) (entry_at gas at r ∷ entries_from gas (suc at) rs) (entries_from gas (suc at) rs)

-- "the index, from 0"
abbrev pub entries_of : Gas → List Record → List Entry
entries_of gas rs = entries_from gas 0 rs

-- ---- the sheet: what is given of each gas
abbrev pub sheet_at : Gas → LotSheet → GasSheet
sheet_at gas s = among gas s.hc s.co s.nox s.co2 s.nmhc

unfoldable pub each_sheet : (Gas → GasSheet) → LotSheet
each_sheet f = record { hc = f HC; co = f CO; nox = f NOx; co2 = f CO2; nmhc = f NMHC }

unfoldable pub sheet_of : List Record → LotSheet
sheet_of rs = each_sheet (λ gas. gas_sheet (entries_of gas rs))

-- ---- refusal 21: "a record with a lower end above its upper end, or an end beyond 10^13 micrograms/km either way, with its index"
abbrev pub of_any : (Gas → Bool) → Bool
of_any p = p HC || (p CO || (p NOx || (p CO2 || p NMHC)))

unfoldable pub faulty : Record → Bool
faulty r = of_any (λ gas. has_gas gas r && faulty_ends (ends_at gas r.weighted))

-- the index of the first that is, where one is
abbrev pub first_fault : ℕ → List Record → Option ℕ
first_fault at [] = none
first_fault at (r ∷ rs) = cond (faulty r) (some at) (first_fault (suc at) rs)

-- ---- the answer: "18 for more than 256; 21 .. after 18"
abbrev pub most_records : ℕ
most_records = 256

abbrev pub on_fault : Option ℕ → LotSheet → Result LotSheet Refusal
on_fault none sheet = Ok sheet
on_fault (some index) sheet = Err (LotRecord index)

unfoldable pub lot_answer : List Record → Result LotSheet Refusal
lot_answer rs = cond (leb (length rs) most_records) (on_fault (first_fault 0 rs) (sheet_of rs)) (Err LotSize)
