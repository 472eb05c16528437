-- The stop rule at its edges, computed by the definitions themselves. Assumes nothing.
use mathlib.Core.Path.{◌≡◌, refl}
use mathlib.Core.List.{List, [], ◌∷◌}
use Prim.Native.Nat.{ℕ}
use lib.ListN.{length}
use Rattle.row.proofs.Examples.{halt, up, not1, trace_of, row_of}
use Rattle.phase.specs.Phase.{first_gear, first_row}

-- the row before corrections of seconds with these flags, whose own gears are all 3
abbrev Begins : List ℕ → List ℕ → Type 0
Begins flags gears = first_row (λ k. 3) (trace_of flags) (length flags) ≡ row_of gears

-- "a run under six is all gear 1"
stop-of-five : Begins (halt ∷ halt ∷ halt ∷ halt ∷ halt ∷ []) (1 ∷ 1 ∷ 1 ∷ 1 ∷ 1 ∷ [])
unfolding first_row first_gear
stop-of-five = refl

-- "the last five seconds of a run of stop seconds are gear 1, earlier ones gear 0"
stop-of-six : Begins (halt ∷ halt ∷ halt ∷ halt ∷ halt ∷ halt ∷ []) (0 ∷ 1 ∷ 1 ∷ 1 ∷ 1 ∷ 1 ∷ [])
unfolding first_row first_gear
stop-of-six = refl

-- each run by itself, and a mark changes nothing
two_runs : Begins (halt ∷ not1 halt ∷ halt ∷ up ∷ halt ∷ halt ∷ halt ∷ []) (1 ∷ 1 ∷ 1 ∷ 3 ∷ 1 ∷ 1 ∷ 1 ∷ [])
unfolding first_row first_gear
two_runs = refl
