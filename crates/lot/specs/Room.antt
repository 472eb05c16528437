-- What the machine needs of the numbers of a lot: how large the tallies of at most m records are, and the ends of a record that is not faulty.
use Rattle.std.specs.Prelude.{◌≡◌, true, ℕ, Ok, Err, Result}
use Rattle.arith.specs.Fitting.{Sized}
use Rattle.refusal.specs.declared.Gas.{Gas}
use Rattle.sides.specs.Gases.{ends_at}
use Rattle.record.specs.declared.Record.{Record}
use Rattle.record.specs.Record.{has_gas}
use Rattle.tally.specs.Entries.{most_end}
use Rattle.tally.specs.Room.{Roomy}
use Rattle.lot.specs.declared.Tallies.{Tallies}
use Rattle.lot.specs.Kept.{tally_at}

abbrev pub RoomyAll : ℕ → Tallies → Type 0
RoomyAll m t = (gas : Gas) → Roomy m (tally_at gas t)

abbrev pub RoomyRun : ℕ → Result Tallies ℕ → Type 0
RoomyRun m (Ok t) = RoomyAll m t
RoomyRun m (Err index) = Unit {0}

abbrev pub Sound : Record → Type 0
Sound r = (gas : Gas) → has_gas gas r ≡ true → Sized most_end (ends_at gas r.weighted)
