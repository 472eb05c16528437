-- `mend` meets its contract: at each return the checks before it hold, and nothing is stored before the last of them.
use Rattle.std.proofs.Common.{◌≡◌, ◌≤◌, ◌+◌, ◌*◌, ◌++◌, ◌&&◌, ℕ, true, false, List, length, drop, refl, sym, ap, ◌∙◌, nat_le, arith}
use borrow.Author.Tests.{leb-true}
use Rattle.std.proofs.lemmas.Result.{err_from_is_err_and}
use Rattle.std.specs.Prelude.{Ok, Err}
use Rattle.refusal.specs.Judging.{Judged}
use Rattle.refusal.specs.declared.Refusal.{Refusal}
use Rattle.refusal.proofs.Ranges.{both}
use Rattle.house.specs.House.{count_of, speed_at}
use Rattle.house.specs.Written.{file_of}
use Rattle.house.proofs.Written.{file-length}
use Rattle.draft.specs.Draft.{fits, judge_mend, counted, at_front, mended, mended_flags, list_of}
use Rattle.draft.proofs.Answers.{mend-refused, mend-by-room, kept, put}
use Rattle.draft.proofs.mend.Goals as goal

-- a refusal, and every output as it was
module _ (draft buffer changed left : List ℕ) where
  abbrev judged_as : Judged
  judged_as = judge_mend draft (length buffer) (length changed) (length left)

  abbrev Refusing : Refusal → Type 0
  Refusing refusal =
      (Err refusal ≡ counted judged_as draft)
      × (buffer ≡ at_front judged_as (mended draft) buffer)
      × (changed ≡ at_front judged_as (list_of draft true) changed)
      × (left ≡ at_front judged_as (list_of draft false) left)

  refusing : {refusal : Refusal} → judged_as ≡ Err refusal → Refusing refusal
  refusing e =
      (sym (ap (λ (j : Judged). counted j draft) e), kept (mended draft) buffer e, kept (list_of draft true) changed e, kept (list_of draft false) left e)

-- past the check each output has its room
has-rooms : (file room changes changed_room opens open_room : ℕ)
    → (nat_le file room && (nat_le changes changed_room && nat_le opens open_room)) ≡ true → (file ≤ room) × (changes ≤ changed_room) × (opens ≤ open_room)
has-rooms file room changes changed_room opens open_room e =
    let lists = nat_le changes changed_room && nat_le opens open_room in
    let all = both (nat_le file room) lists e in
    let two = both (nat_le changes changed_room) (nat_le opens open_room) all.1 in
    (leb-true file room all.0, leb-true changes changed_room two.0, leb-true opens open_room two.1)

pub returns-in_err-draft : goal.returns-in_err-draft
returns-in_err-draft c =
    let p = err_from_is_err_and c.from_residual.result c.from_residual.ensures.1 in
    rw (p.1, p.2) (refusing c.args.draft.now c.args.buffer.now c.args.changed.now c.args.left.now (mend-refused c.args.draft.now _ _ _ c.in_err-draft.ensures))

-- the room is judged by what was counted
roomy : (draft : List ℕ) (room changed_room open_room : ℕ) {n changes opens : ℕ} → n ≡ count_of draft → changes ≡ length (list_of draft true)
    → opens ≡ length (list_of draft false)
    → (nat_le (8 + 4 * n) room && (nat_le changes changed_room && nat_le opens open_room)) ≡ fits draft room changed_room open_room
roomy draft room changed_room open_room n changes opens =
    (λ i. nat_le (8 + 4 * n i) room && (nat_le (changes i) changed_room && nat_le (opens i) open_room))

pub returns-then-not-draft-buffer : goal.returns-then-not-draft-buffer
returns-then-not-draft-buffer c =
    let draft = c.args.draft.now in
    let is = roomy draft (length c.args.buffer.now) (length c.args.changed.now) (length c.args.left.now) c.in_ok-draft.ensures.2 (rw c.in_ok-draft.ensures.1 at c.count_seconds-changes.ensures.0) (rw c.in_ok-draft.ensures.1 at c.count_seconds-opens.ensures.0) in
    refusing draft c.args.buffer.now c.args.changed.now c.args.left.now
    (mend-by-room draft _ _ _ c.in_ok-draft.ensures.0 (sym is ∙ c.if-not-draft-buffer.true))

pub fill-requires : goal.fill-requires
fill-requires c =
    let rooms = has-rooms (8 + 4 * c.in_ok-draft.draft.file.seconds) _ c.count_seconds-changes.result _ c.count_seconds-opens.result _ c.if-not-draft-buffer.false in
    rooms.0

pub list_seconds-requires : goal.list_seconds-requires
list_seconds-requires c =
    let rooms = has-rooms (8 + 4 * c.in_ok-draft.draft.file.seconds) _ c.count_seconds-changes.result _ c.count_seconds-opens.result _ c.if-not-draft-buffer.false in
    omega (arith, rooms.1, (rw c.in_ok-draft.ensures.1 at c.count_seconds-changes.ensures.0))

pub list_seconds-requires-2 : goal.list_seconds-requires-2
list_seconds-requires-2 c =
    let rooms = has-rooms (8 + 4 * c.in_ok-draft.draft.file.seconds) _ c.count_seconds-changes.result _ c.count_seconds-opens.result _ c.if-not-draft-buffer.false in
    omega (arith, rooms.2, (rw c.in_ok-draft.ensures.1 at c.count_seconds-opens.ensures.0))

pub returns : goal.returns
returns c =
    let draft = c.args.draft.now in
    let n = c.in_ok-draft.ensures.2 in
    let is = roomy draft (length c.args.buffer.now) (length c.args.changed.now) (length c.args.left.now) n (rw c.in_ok-draft.ensures.1 at c.count_seconds-changes.ensures.0) (rw c.in_ok-draft.ensures.1 at c.count_seconds-opens.ensures.0) in
    let e = mend-by-room draft _ _ _ c.in_ok-draft.ensures.0 (sym is ∙ c.if-not-draft-buffer.false) in (
      (λ i. Ok (record { changed = (rw c.in_ok-draft.ensures.1 at c.count_seconds-changes.ensures.0) i; left = (rw c.in_ok-draft.ensures.1 at c.count_seconds-opens.ensures.0) i })) ∙ sym (ap (λ (j : Judged). counted j draft) e),
      (rw c.in_ok-draft.ensures.1 at c.fill.ensures)
          ∙ (λ i. file_of 3 (speed_at draft) (mended_flags draft) (n i) ++ drop (8 + 4 * n i) c.args.buffer.now)
          ∙ put (mended draft) c.args.buffer.now e (file-length 3 (speed_at draft) (mended_flags draft) (count_of draft)),
      (rw c.in_ok-draft.ensures.1 at c.list_seconds.ensures) ∙ put (list_of draft true) c.args.changed.now e refl,
      (rw c.in_ok-draft.ensures.1 at c.list_seconds-2.ensures) ∙ put (list_of draft false) c.args.left.now e refl,
    )
