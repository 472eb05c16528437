-- What is made for each gas is each gas's. Assumes nothing.
use mathlib.Core.Path.{◌≡◌}
use Rattle.refusal.specs.declared.Gas.{Gas}
use Rattle.bag.proofs.Gas.{among-each}
use Rattle.tally.specs.declared.GasSheet.{GasSheet}
use Rattle.tally.specs.declared.Tally.{Tally}
use Rattle.lot.specs.Lot.{sheet_at, each_sheet}
use Rattle.lot.specs.Kept.{tally_at, each_tally}

pub tally-at : (gas : Gas) (f : Gas → Tally) → tally_at gas (each_tally f) ≡ f gas
unfolding each_tally
tally-at gas f = among-each gas f

pub sheet-at : (gas : Gas) (f : Gas → GasSheet) → sheet_at gas (each_sheet f) ≡ f gas
unfolding each_sheet
sheet-at gas f = among-each gas f
