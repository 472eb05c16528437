-- The answer of mending a draft as it crosses the boundary: the outcome, and beside a refusal no count but 0.
use Rattle.std.specs.Prelude.{Result, Ok, Err}
use Rattle.refusal.specs.declared.Refusal.{Refusal}
use Rattle.draft.specs.declared.Mended.{Mended}
use Rattle.outcome.specs.Outcome.{outcome_of}
use Rattle.draft_crossing.specs.declared.MendOutcome.{MendOutcome}

abbrev pub mend_out : Result Mended Refusal → MendOutcome
mend_out (Ok m) = record { outcome = outcome_of (Ok tt); changed = m.changed; left = m.left }
mend_out (Err refusal) = record { outcome = outcome_of (Err refusal); changed = 0; left = 0 }
