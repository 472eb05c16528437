-- Every refusal of a whole plan exactly: what is given is the first line of the table that fails. Assumes nothing.
use mathlib.Core.Path.{◌≡◌, refl, ap, ◌∙◌}
use mathlib.Core.Bool.{Bool, true, ◌&&◌}
use mathlib.Core.List.{List, [], ◌∷◌, ◌++◌}
use Prim.Native.Nat.{ℕ, ◌*◌, ◌/◌, ◌%◌}
use native.Mathlib.Omega.{arith}
use lib.Dec.{eqb, leb}
use Rattle.refusal.specs.declared.Refusal.TheVariants.{Room}
use Rattle.refusal.specs.Judging.{Judged, Check, judged_by, and_then}
use Rattle.house.specs.House.{count_of}
use Rattle.plan.specs.Plan.{judge_room, judge_plan}
use Rattle.outcome.specs.Outcome.{outcome_of}
use Rattle.claims.specs.Table.{outcome, plain, first_of, Exactly, rising, plan_table}
use Rattle.claims.proofs.Checks.{check, trace_checks, trace-judged, then-list}
use Rattle.claims.proofs.Table.{lines_of, given-first, lines-append, lines-each, decides, rising-numbered, rising-lines}

module _ (trace : List ℕ) (sheets rows answers : ℕ) where
  abbrev room : Bool
  room = eqb (sheets % 14) 0 && leb (2 * count_of trace * (sheets / 14)) rows && leb (2 * (sheets / 14)) answers

  abbrev checks : List Check
  checks = trace_checks trace ++ (check room Room ∷ [])

  plan-judged : judge_plan trace sheets rows answers ≡ judged_by checks
  unfolding judge_plan judge_room
  plan-judged =
      ap (λ (j : Judged). and_then j (judged_by (check room Room ∷ []))) (trace-judged trace)
      ∙ then-list (trace_checks trace) (check room Room ∷ [])

  plan-lines : lines_of checks ≡ plan_table trace sheets rows answers
  plan-lines = simp (lines-append, lines-each)

  pub plan-rising : rising (outcome 1 0 0 0) (plan_table trace sheets rows answers) ≡ true
  plan-rising = rising-lines _ 4 1 0 (count_of trace) (outcome 3 0 0 0) (plain 8 room ∷ []) refl refl (λ a l. refl)

  pub plan-table : outcome_of (judge_plan trace sheets rows answers) ≡ first_of (plan_table trace sheets rows answers)
  plan-table = ap outcome_of plan-judged ∙ given-first checks ∙ ap first_of plan-lines

  pub plan-exactly : Exactly (outcome_of (judge_plan trace sheets rows answers)) (plan_table trace sheets rows answers)
  plan-exactly = rw plan-table (decides (plan_table trace sheets rows answers) (rising-numbered (outcome 1 0 0 0) (plan_table trace sheets rows answers) (omega arith) plan-rising))
