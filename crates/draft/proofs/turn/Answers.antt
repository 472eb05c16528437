-- `turn` meets its contract: at each return the checks before it hold, and nothing is stored before the last of them.
use Rattle.std.proofs.Common.{◌≡◌, ◌+◌, ◌*◌, ◌++◌, ◌&&◌, ℕ, Bool, true, false, List, length, drop, refl, sym, ap, ◌∙◌, arith}
use borrow.Author.Tests.{not-true}
use Rattle.std.proofs.lemmas.Result.{err_from_is_err_and}
use Rattle.std.specs.Prelude.{Ok}
use Rattle.house.specs.House.{count_of, speed_at, flags_at, missing_at}
use Rattle.house.specs.Written.{head_of, file_of}
use Rattle.house.proofs.Written.{file-length, seconds-same}
use Rattle.draft.specs.Draft.{judge_draft, is_bounded, mended_flags, turned}
use Rattle.draft.proofs.Gaps.{flags-by}
use Rattle.draft.proofs.Answers.{each-good, turn-refused, turn-too-small, turn-fits, kept, put}
use Rattle.draft.proofs.turn.Goals as goal

-- where nothing is missing, mending alters nothing
known-flags : (draft : List ℕ) (k : ℕ) → missing_at draft k ≡ false → mended_flags draft k ≡ flags_at draft k
known-flags draft k e = flags-by draft k (ap (λ (b : Bool). b && is_bounded draft k) e)

unaltered : (draft : List ℕ) → judge_draft true draft ≡ Ok tt → file_of 1 (speed_at draft) (mended_flags draft) (count_of draft) ≡ turned draft
unaltered draft e =
    ap (λ (l : List ℕ). head_of 1 (count_of draft) ++ l)
    (seconds-same (speed_at draft) (mended_flags draft) (speed_at draft) (flags_at draft) (count_of draft) (λ k l. refl)
    (λ k l. known-flags draft k (not-true _ (each-good true draft e k l).1)))

pub returns-in_err-draft : goal.returns-in_err-draft
returns-in_err-draft c =
    let e = turn-refused c.args.draft.now (length c.args.buffer.now) c.in_err-draft.ensures in
    let p = err_from_is_err_and c.from_residual.result c.from_residual.ensures.1 in
    rw (p.1, p.2) (sym e, kept (turned c.args.draft.now) c.args.buffer.now e)

pub returns-then-buffer-draft : goal.returns-then-buffer-draft
returns-then-buffer-draft c =
    let e = turn-too-small c.args.draft.now (length c.args.buffer.now) c.in_ok-draft.ensures.0 (omega (arith, c.if-buffer-draft.true, c.in_ok-draft.ensures.2)) in
    (sym e, kept (turned c.args.draft.now) c.args.buffer.now e)

pub fill-requires : goal.fill-requires
fill-requires c = c.if-buffer-draft.false

pub returns : goal.returns
returns c =
    let draft = c.args.draft.now in
    let buffer = c.args.buffer.now in
    let n = c.in_ok-draft.ensures.2 in
    let e = turn-fits draft (length buffer) c.in_ok-draft.ensures.0 (omega (arith, c.if-buffer-draft.false, n)) in (
      sym e,
      (rw c.in_ok-draft.ensures.1 at c.fill.ensures)
          ∙ (λ i. file_of 1 (speed_at draft) (mended_flags draft) (n i) ++ drop (8 + 4 * n i) buffer)
          ∙ ap (λ (l : List ℕ). l ++ drop (8 + 4 * count_of draft) buffer) (unaltered draft c.in_ok-draft.ensures.0)
          ∙ put (turned draft) buffer e (file-length 1 (speed_at draft) (flags_at draft) (count_of draft)),
    )
