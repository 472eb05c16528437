-- The answers of mending and turning by the cases of their checks, and what a draft that passes them tells. Assumes nothing.
use mathlib.Core.Path.{◌≡◌, sym, ap, ◌∙◌}
use mathlib.Core.Bool.{Bool, true, false, not, ◌&&◌}
use mathlib.Core.List.{List, ◌++◌}
use Prim.Native.Nat.{ℕ, ◌+◌, ◌*◌, ◌≤◌, ◌<◌}
use native.Mathlib.Omega.{arith}
use lib.ListN.{length, drop}
use borrow.Author.Tests.{le-leb, lt-leb}
use Rattle.std.specs.Prelude.{Ok, Err}
use Rattle.refusal.specs.Judging.{Judged, checked}
use Rattle.refusal.specs.declared.Refusal.{Refusal}
use Rattle.refusal.specs.declared.Refusal.TheVariants.{Second, Room}
use Rattle.refusal.proofs.Ranges.{both}
use Rattle.refusal.proofs.Judging.{refused-not}
use Rattle.walk.proofs.Walk.{all-good}
use Rattle.walk.proofs.Same.{scan_good}
use Rattle.house.specs.House.{count_of, draft_headed, draft_good, missing_at}
use Rattle.trace.proofs.Files.{Passed, passed, file-taken}
use Rattle.draft.specs.Draft.{good_for, judge_seconds, judge_draft, fits, judge_mend, judge_turn, at_front}
use Rattle.draft.specs.Gap.{Drafted}

-- ---- a draft that is read
module _ (turning : Bool) (draft : List ℕ) (e : judge_draft turning draft ≡ Ok tt) where
  pub past : Passed (draft_headed draft) draft (judge_seconds turning draft 0 (count_of draft))
  unfolding judge_draft
  past = passed (draft_headed draft) draft (judge_seconds turning draft 0 (count_of draft)) e

  pub each-good : (k : ℕ) → k < count_of draft → (draft_good draft k ≡ true) × (not (turning && missing_at draft k) ≡ true)
  each-good k l =
      both (draft_good draft k) (not (turning && missing_at draft k)) (all-good (good_for turning draft) _ _ (Ok tt) (λ k. refused-not) (count_of draft) past.all k l)

-- and one is read where this is so
pub read_by : (turning : Bool) (draft : List ℕ) → draft_headed draft ≡ true → 1 ≤ count_of draft → count_of draft ≤ 2000 → length draft ≡ 8 + 4 * count_of draft
    → ((k : ℕ) → k < count_of draft → good_for turning draft k ≡ true) → judge_draft turning draft ≡ Ok tt
unfolding judge_draft
read_by turning draft head some few exact each =
    file-taken (draft_headed draft) draft (judge_seconds turning draft 0 (count_of draft)) head some few exact
    ∙ scan_good (λ k. Err (Second (k + 1))) (λ k. Ok tt) (good_for turning draft) 0 (count_of draft) (λ k l. each k (omega arith))

-- ---- mending
module _ (draft : List ℕ) (room changed_room open_room : ℕ) where
  pub mend-refused : {refusal : Refusal} → judge_draft false draft ≡ Err refusal → judge_mend draft room changed_room open_room ≡ Err refusal
  unfolding judge_mend
  mend-refused e = rw e

  pub mend-by-room : judge_draft false draft ≡ Ok tt → {b : Bool} → fits draft room changed_room open_room ≡ b
      → judge_mend draft room changed_room open_room ≡ checked b Room (Ok tt)
  unfolding judge_mend
  mend-by-room e f = rw (e, f)

-- ---- turning
module _ (draft : List ℕ) (room : ℕ) where
  pub turn-refused : {refusal : Refusal} → judge_draft true draft ≡ Err refusal → judge_turn draft room ≡ Err refusal
  unfolding judge_turn
  turn-refused e = rw e

  pub turn-too-small : judge_draft true draft ≡ Ok tt → room < 8 + 4 * count_of draft → judge_turn draft room ≡ Err Room
  unfolding judge_turn
  turn-too-small e l = rw (e, lt-leb (8 + 4 * count_of draft) room l)

  pub turn-fits : judge_draft true draft ≡ Ok tt → 8 + 4 * count_of draft ≤ room → judge_turn draft room ≡ Ok tt
  unfolding judge_turn
  turn-fits e l = rw (e, le-leb (8 + 4 * count_of draft) room l)

-- ---- an output at the end
module _ (new old : List ℕ) where
  pub kept : {j : Judged} {refusal : Refusal} → j ≡ Err refusal → old ≡ at_front j new old
  kept e = sym (ap (λ (j : Judged). at_front j new old) e)

  pub put : {j : Judged} {n : ℕ} → j ≡ Ok tt → length new ≡ n → new ++ drop n old ≡ at_front j new old
  put e long = ap (λ (n : ℕ). new ++ drop n old) (sym long) ∙ sym (ap (λ (j : Judged). at_front j new old) e)
