-- What the code keeps of the records from one on to the last, what one record more makes of it, and the answer that it comes to.
use Rattle.std.specs.Prelude.{Bool, cond, List, ℕ, leb, Ok, Err, Result}
use Rattle.std.proofs.Math.Option.{Option, none, some}
use Rattle.refusal.specs.declared.Gas.{Gas}
use Rattle.refusal.specs.declared.Gas.TheVariants.{HC, CO, NOx, CO2, NMHC}
use Rattle.refusal.specs.declared.Refusal.{Refusal}
use Rattle.refusal.specs.declared.Refusal.TheVariants.{LotSize, LotRecord}
use Rattle.bag.specs.Gas.{among}
use Rattle.record.specs.declared.Record.{Record}
use Rattle.record.specs.Record.{has_gas}
use Rattle.tally.specs.declared.Tally.{Tally}
use Rattle.tally.specs.Entries.{Entry}
use Rattle.tally.specs.Kept.{tally_of, no_tally, added_to, gas_sheet_by}
use Rattle.lot.specs.declared.LotSheet.{LotSheet}
use Rattle.lot.specs.declared.Tallies.{Tallies}
use Rattle.lot.specs.Lot.{entry_at, entries_from, each_sheet, faulty, first_fault, most_records}

-- ---- of every gas
abbrev pub tally_at : Gas → Tallies → Tally
tally_at gas t = among gas t.hc t.co t.nox t.co2 t.nmhc

unfoldable pub each_tally : (Gas → Tally) → Tallies
each_tally f = record { hc = f HC; co = f CO; nox = f NOx; co2 = f CO2; nmhc = f NMHC }

unfoldable pub tallies_from : ℕ → List Record → Tallies
tallies_from at rs = each_tally (λ gas. tally_of (entries_from gas at rs))

abbrev pub added_if : Bool → Entry → Tally → Tally
added_if has e t = cond has (added_to e t) t

unfoldable pub with_record : ℕ → Record → Tallies → Tallies
with_record at r t = each_tally (λ gas. added_if (has_gas gas r) (entry_at gas at r) (tally_at gas t))

-- ---- of the records from index `at` on
abbrev pub running_of : Option ℕ → Tallies → Result Tallies ℕ
running_of none t = Ok t
running_of (some index) t = Err index

unfoldable pub running_from : ℕ → List Record → Result Tallies ℕ
running_from at rs = running_of (first_fault at rs) (tallies_from at rs)

unfoldable pub nothing : Result Tallies ℕ
nothing = Ok (each_tally (λ gas. no_tally))

-- one record more, before the others
abbrev pub kept_with : ℕ → Record → Result Tallies ℕ → Result Tallies ℕ
kept_with at r (Ok t) = Ok (with_record at r t)
kept_with at r (Err index) = Err index

unfoldable pub joined_to : ℕ → Record → Result Tallies ℕ → Result Tallies ℕ
joined_to at r after = cond (faulty r) (Err at) (kept_with at r after)

-- how many of n records are read
abbrev pub records_read : ℕ → ℕ
records_read n = cond (leb n most_records) n 0

-- ---- the answer
unfoldable pub sheet_by : Tallies → LotSheet
sheet_by t = each_sheet (λ gas. gas_sheet_by (tally_at gas t))

abbrev pub answer_by : Result Tallies ℕ → Result LotSheet Refusal
answer_by (Ok t) = Ok (sheet_by t)
answer_by (Err index) = Err (LotRecord index)

unfoldable pub finished_by : ℕ → Result Tallies ℕ → Result LotSheet Refusal
finished_by n running = cond (leb n most_records) (answer_by running) (Err LotSize)
