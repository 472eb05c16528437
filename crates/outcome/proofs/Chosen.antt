-- The number that crosses the boundary names the slice that `trace::choose` hands back. Assumes nothing.
use Prim.Native.Nat.{ℕ}
use mathlib.Core.Path.{◌≡◌, refl}
use mathlib.Core.Bool.{Bool, true, false}
use mathlib.Core.List.{List}
use denote.Ref.{Bor}
use Rattle.std.specs.Prelude.{Ok, Err}
use Rattle.refusal.specs.Judging.{Judged}
use Rattle.trace.specs.Choice.{chosen_view}
use Rattle.outcome.specs.Outcome.{chosen_of, lent_by}

pub chosen-view : (judged : Judged) (switch : Bool) (normal reduced : Bor (List ℕ))
    → lent_by (chosen_of judged switch) normal reduced ≡ chosen_view judged switch normal reduced
chosen-view (Ok _) true normal reduced = refl
chosen-view (Ok _) false normal reduced = refl
chosen-view (Err refusal) switch normal reduced = refl
