-- The lot sheet's answer as it crosses the boundary: in numbers alone.
use Rattle.std.specs.Prelude.{pos, Err, None, Ok, Option, Result, Some}
use Rattle.arith.specs.Stages.{exactly}
use Rattle.refusal.specs.declared.Refusal.{Refusal}
use Rattle.outcome.specs.Outcome.{outcome_of}
use Rattle.tally.specs.declared.Mean.{Mean}
use Rattle.tally.specs.declared.GasSheet.{GasSheet}
use Rattle.lot.specs.declared.LotSheet.{LotSheet}
use Rattle.lot_crossing.specs.declared.LotGas.{LotGas}
use Rattle.lot_crossing.specs.declared.LotOutcome.{LotOutcome}

-- "no mean and no index": both stand as 0, and the counts, which are 0 too, tell it
abbrev pub with_mean : GasSheet → Option Mean → LotGas
with_mean g None = record { passed = g.passed; failed = g.failed; undecided = g.undecided; worst = 0; sum = g.sum; mean = exactly (pos 0) }
with_mean g (Some m) = record { passed = g.passed; failed = g.failed; undecided = g.undecided; worst = m.worst; sum = g.sum; mean = m.ends }

unfoldable pub gas_out : GasSheet → LotGas
gas_out g = with_mean g g.mean

unfoldable pub sheet_out : LotSheet → LotOutcome
sheet_out s = record { outcome = outcome_of (Ok tt); hc = gas_out s.hc; co = gas_out s.co; nox = gas_out s.nox; co2 = gas_out s.co2; nmhc = gas_out s.nmhc }

-- beside a refusal all figures are 0
unfoldable pub no_gas : LotGas
no_gas = record { passed = 0; failed = 0; undecided = 0; worst = 0; sum = exactly (pos 0); mean = exactly (pos 0) }

unfoldable pub refused_out : Refusal → LotOutcome
refused_out refusal = record { outcome = outcome_of (Err refusal); hc = no_gas; co = no_gas; nox = no_gas; co2 = no_gas; nmhc = no_gas }

abbrev pub lot_out : Result LotSheet Refusal → LotOutcome
lot_out (Ok sheet) = sheet_out sheet
lot_out (Err refusal) = refused_out refusal
