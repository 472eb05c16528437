-- 01, Trace: "the core hands back the chosen one of the two lent traces itself, not a copy; on a refusal .. the empty first part of the normal trace".
use Rattle.std.specs.Prelude.{ℕ, Bool, cond, ◌≡◌, List, [], Ok, Err}
use Rattle.std.specs.Borrow.{Bor}
use Rattle.refusal.specs.Judging.{Judged}
use Rattle.trace.specs.Judging.{judge_pair}

-- a lent slice by its place in memory and its bytes: the same place and bytes are the same slice
abbrev pub view : Bor (List ℕ) → (ℕ × ℕ) × List ℕ
view lent = (lent.ref_ptr, lent.now)

-- accepted: the one that the switch names; refused: the place of the normal one, and no bytes
abbrev pub chosen_view : Judged → Bool → Bor (List ℕ) → Bor (List ℕ) → (ℕ × ℕ) × List ℕ
chosen_view (Ok _) switch normal reduced = cond switch (view reduced) (view normal)
chosen_view (Err refusal) switch normal reduced = (normal.ref_ptr, [])

-- what is handed back, for accepted and refused pairs; and that an accepted pair's is the lent reference itself
pub record Chosen (normal reduced : Bor (List ℕ)) (switch : Bool) (lent : Bor (List ℕ)) : Type 0 where
  pub seen : view lent ≡ chosen_view (judge_pair normal.now reduced.now) switch normal reduced
  pub itself : judge_pair normal.now reduced.now ≡ Ok tt → lent ≡ cond switch reduced normal
