-- Short rows, computed by the definitions themselves: each shows correction 6, or one of its exceptions, or the six in order. The two rows that 01 marks
-- stand in the list of known figures (crate claims). Assumes nothing.
use mathlib.Core.Path.{refl}
use mathlib.Core.List.{[], ◌∷◌}
use Rattle.row.specs.Corrections.{capped, cap_after, ruled}
use Rattle.row.proofs.Examples.{halt, level, not1, cruises, Takes}
use Rattle.runs.specs.Runs.{takes, run_judged, run_next, row_after, next_after, smooth, smoothed}
use Rattle.runs.specs.Corrected.{corrected}

-- 6: a run of four seconds takes the gear beside it, one of five stays
run-of-four : Takes smoothed (cruises 6) (7 ∷ 8 ∷ 8 ∷ 8 ∷ 8 ∷ 7 ∷ []) (7 ∷ 7 ∷ 7 ∷ 7 ∷ 7 ∷ 7 ∷ [])
unfolding smoothed smooth row_after run_judged next_after run_next takes
run-of-four = refl

run-of-five : Takes smoothed (cruises 7) (7 ∷ 8 ∷ 8 ∷ 8 ∷ 8 ∷ 8 ∷ 7 ∷ []) (7 ∷ 8 ∷ 8 ∷ 8 ∷ 8 ∷ 8 ∷ 7 ∷ [])
unfolding smoothed smooth row_after run_judged next_after run_next takes
run-of-five = refl

-- 6: 3 4 3 becomes one run, which counts as judged: it does not take the 2 beside it
merged-run : Takes smoothed (cruises 5) (2 ∷ 3 ∷ 4 ∷ 3 ∷ 2 ∷ []) (2 ∷ 3 ∷ 3 ∷ 3 ∷ 2 ∷ [])
unfolding smoothed smooth row_after run_judged next_after run_next takes
merged-run = refl

-- 6: a neighbour is a stop, on the left or on the right
behind-a-stop : Takes smoothed (halt ∷ cruises 3) (1 ∷ 2 ∷ 1 ∷ 1 ∷ []) (1 ∷ 2 ∷ 1 ∷ 1 ∷ [])
unfolding smoothed smooth row_after run_judged next_after run_next takes
behind-a-stop = refl

before-a-stop : Takes smoothed (level ∷ level ∷ halt ∷ []) (1 ∷ 2 ∷ 1 ∷ []) (1 ∷ 2 ∷ 1 ∷ [])
unfolding smoothed smooth row_after run_judged next_after run_next takes
before-a-stop = refl

-- 6: a run ends at a stop, though the gear goes on behind it
ended-by-a-stop : Takes smoothed (level ∷ level ∷ level ∷ halt ∷ level ∷ []) (1 ∷ 2 ∷ 1 ∷ 1 ∷ 2 ∷ []) (1 ∷ 1 ∷ 1 ∷ 1 ∷ 2 ∷ [])
unfolding smoothed smooth row_after run_judged next_after run_next takes
ended-by-a-stop = refl

-- 6: the gear would be 1, and the run has a "no 1. gear" second
run-of-no-first : Takes smoothed (level ∷ not1 level ∷ level ∷ []) (1 ∷ 2 ∷ 1 ∷ []) (1 ∷ 2 ∷ 1 ∷ [])
unfolding smoothed smooth row_after run_judged next_after run_next takes
run-of-no-first = refl

-- 6: each run is judged, not the first alone
every-run : Takes smoothed (cruises 7) (2 ∷ 3 ∷ 2 ∷ 4 ∷ 2 ∷ 5 ∷ 2 ∷ []) (2 ∷ 2 ∷ 2 ∷ 2 ∷ 2 ∷ 2 ∷ 2 ∷ [])
unfolding smoothed smooth row_after run_judged next_after run_next takes
every-run = refl

-- in this order: correction 5 makes 3 2 5 into 3 2 3, which correction 6 makes into 3 3 3
all-six : Takes corrected (cruises 3) (3 ∷ 2 ∷ 5 ∷ []) (3 ∷ 3 ∷ 3 ∷ [])
unfolding capped cap_after ruled smoothed smooth row_after run_judged next_after run_next takes
all-six = refl
