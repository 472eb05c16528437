-- Every refusal of mending and turning exactly: what is given is the first line of the table that fails. Assumes nothing.
use mathlib.Core.Path.{◌≡◌, refl, ap, ◌∙◌}
use mathlib.Core.Bool.{Bool, true, false}
use mathlib.Core.List.{List, [], ◌∷◌, ◌++◌}
use Prim.Native.Nat.{ℕ, ◌+◌, ◌*◌}
use native.Mathlib.Omega.{arith}
use lib.Dec.{leb}
use Rattle.refusal.specs.declared.Refusal.TheVariants.{Room}
use Rattle.std.specs.Prelude.{Ok, Err}
use Rattle.refusal.specs.Judging.{Judged, Check, judged_by, and_then}
use Rattle.house.specs.House.{count_of, draft_headed}
use Rattle.draft.specs.Draft.{good_for, judge_draft, fits, judge_mend, counted, mend_answer, judge_turn}
use Rattle.outcome.specs.declared.Outcome.{Outcome}
use Rattle.outcome.specs.Outcome.{outcome_of}
use Rattle.draft_crossing.specs.Mend.{mend_out}
use Rattle.claims.specs.Table.{outcome, plain, first_of, Exactly, rising, draft_table, mend_table, turn_table}
use Rattle.claims.proofs.Checks.{check, file_checks, file-judged, then-list}
use Rattle.claims.proofs.Table.{lines_of, given-first, lines-append, lines-each, decides, rising-numbered, rising-lines}

-- ---- the draft, and then the room
module _ (turning : Bool) (draft : List ℕ) (room : Bool) where
  abbrev checks : List Check
  checks = file_checks (draft_headed draft) (good_for turning draft) draft ++ (check room Room ∷ [])

  draft-judged : and_then (judge_draft turning draft) (judged_by (check room Room ∷ [])) ≡ judged_by checks
  unfolding judge_draft
  draft-judged =
      ap (λ (j : Judged). and_then j (judged_by (check room Room ∷ []))) (file-judged (draft_headed draft) (good_for turning draft) draft)
      ∙ then-list (file_checks (draft_headed draft) (good_for turning draft) draft) (check room Room ∷ [])

  draft-lines : lines_of checks ≡ draft_table turning draft ++ (plain 8 room ∷ [])
  draft-lines = simp (lines-append, lines-each)

  pub draft-rising : rising (outcome 1 0 0 0) (draft_table turning draft ++ (plain 8 room ∷ [])) ≡ true
  draft-rising = rising-lines _ 4 1 0 (count_of draft) (outcome 3 0 0 0) (plain 8 room ∷ []) refl refl (λ a l. refl)

  draft-first : outcome_of (and_then (judge_draft turning draft) (judged_by (check room Room ∷ []))) ≡ first_of (draft_table turning draft ++ (plain 8 room ∷ []))
  draft-first = ap outcome_of draft-judged ∙ given-first checks ∙ ap first_of draft-lines

  draft-exactly : {given : Outcome} → given ≡ first_of (draft_table turning draft ++ (plain 8 room ∷ [])) → Exactly given (draft_table turning draft ++ (plain 8 room ∷ []))
  draft-exactly e =
      rw e
      (decides (draft_table turning draft ++ (plain 8 room ∷ []))
      (rising-numbered (outcome 1 0 0 0) (draft_table turning draft ++ (plain 8 room ∷ [])) (omega arith) draft-rising))

-- ---- mending, as a bench is given it
given_out : (j : Judged) (draft : List ℕ) → (mend_out (counted j draft)).outcome ≡ outcome_of j
given_out (Ok _) draft = refl
given_out (Err refusal) draft = refl

module _ (draft : List ℕ) (room changed_room open_room : ℕ) where
  pub mend-table : (mend_out (mend_answer draft room changed_room open_room)).outcome ≡ first_of (mend_table draft room changed_room open_room)
  unfolding judge_mend
  mend-table = given_out (judge_mend draft room changed_room open_room) draft ∙ draft-first false draft (fits draft room changed_room open_room)

  pub mend-exactly : Exactly (mend_out (mend_answer draft room changed_room open_room)).outcome (mend_table draft room changed_room open_room)
  mend-exactly = draft-exactly false draft (fits draft room changed_room open_room) mend-table

-- ---- turning
module _ (draft : List ℕ) (room : ℕ) where
  pub turn-table : outcome_of (judge_turn draft room) ≡ first_of (turn_table draft room)
  unfolding judge_turn
  turn-table = draft-first true draft (leb (8 + 4 * count_of draft) room)

  pub turn-exactly : Exactly (outcome_of (judge_turn draft room)) (turn_table draft room)
  turn-exactly = draft-exactly true draft (leb (8 + 4 * count_of draft) room) turn-table
