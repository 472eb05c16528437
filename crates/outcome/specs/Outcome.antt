-- What crosses the boundary in place of an enum and of a reference: numbers.
use Rattle.std.specs.Prelude.{ℕ, Bool, cond, List, [], eqb, Ok, Err}
use Rattle.std.specs.Borrow.{Bor}
use Rattle.refusal.specs.Judging.{Judged}
use Rattle.refusal.specs.Table.{number_of, place_of}
use Rattle.trace.specs.Choice.{view}
use Rattle.outcome.specs.declared.Outcome.{Outcome}

-- 0 and no place where all was accepted, else the table's number and place
abbrev pub outcome_of : Judged → Outcome
outcome_of (Ok _) = record { number = 0; at = 0; within = 0; side = 0 }
outcome_of (Err refusal) =
    record { number = number_of refusal; at = (place_of refusal).at; within = (place_of refusal).within; side = (place_of refusal).side }

-- 0 neither, 1 the normal trace, 2 the reduced one
abbrev pub chosen_of : Judged → Bool → ℕ
chosen_of (Ok _) switch = cond switch 2 1
chosen_of (Err refusal) switch = 0

-- the slice that such a number names: for 0 the place of the normal one, and no bytes
abbrev pub lent_by : ℕ → Bor (List ℕ) → Bor (List ℕ) → (ℕ × ℕ) × List ℕ
lent_by chosen normal reduced = cond (eqb chosen 0) (normal.ref_ptr, []) (cond (eqb chosen 2) (view reduced) (view normal))
