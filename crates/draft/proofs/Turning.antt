-- Turning gives a trace that the judge takes, with the same seconds; and a draft that was mended with nothing left open can be turned. Assumes nothing.
use mathlib.Core.Path.{◌≡◌, refl, sym, ap, subst, ◌∙◌}
use mathlib.Core.Bool.{Bool, true, false, not, ◌&&◌}
use mathlib.Core.List.{List, []}
use Prim.Native.Nat.{ℕ, suc, ◌<◌}
use native.Mathlib.Omega.{arith}
use lib.ListN.{length}
use borrow.Author.Tests.{le-leb, not-true}
use Rattle.std.specs.Prelude.{Ok}
use Rattle.house.specs.House.{headed, allows, count_of, speed_at, flags_at, zero_at, missing_at, draft_allows, second_good}
use Rattle.house.proofs.Versions.{or-false, good-parts, parts-good}
use Rattle.house.proofs.Drafts.{known-flags}
use Rattle.house.proofs.Written.{file-length, file-version, file-count, file-speed, file-flags, file-zero}
use Rattle.trace.proofs.Sound.{accepted-by}
use Rattle.draft.specs.Draft.{judge_draft, open_at, mended, turned, listed_at, list_of}
use Rattle.draft.specs.Statements.{On, Turning}
use Rattle.draft.proofs.Answers.{past, each-good, read_by}
use Rattle.draft.proofs.Listing.{held_on, on_none}
use Rattle.draft.proofs.Mending.{mended-count}
use Rattle.draft.proofs.Again.{again, good-again, missing-open}

module _ (draft : List ℕ) (read : judge_draft true draft ≡ Ok tt) where
  abbrev n : ℕ
  n = count_of draft

  good : (k : ℕ) → k < n → second_good (turned draft) k ≡ true
  good k l =
      let second = each-good true draft read k l in
      let parts = good-parts (draft_allows (flags_at draft k)) (speed_at draft k) (zero_at draft k) second.0 in
      let few = known-flags (flags_at draft k) parts.1 (not-true (missing_at draft k) second.1) in
      let speed : speed_at (turned draft) k ≡ speed_at draft k = file-speed 1 (speed_at draft) _ n k l in
      let flags : flags_at (turned draft) k ≡ flags_at draft k = file-flags 1 (speed_at draft) _ n k l in
      parts-good (speed_at (turned draft) k) (zero_at (turned draft) k) (omega (arith, parts.0, speed))
      (ap (allows 1) flags ∙ sym (or-false _) ∙ le-leb (flags_at draft k) 15 few)
      (file-zero 1 (speed_at draft) _ n k l)

  pub turning : Turning draft
  turning =
      let file = past true draft read in
      let long = file-length 1 (speed_at draft) (flags_at draft) n in
      let count = file-count 1 (speed_at draft) (flags_at draft) n in
      let head : headed (turned draft) ≡ true = ap (λ (b : Bool). b && true) (le-leb 8 (length (turned draft)) (omega (arith, long))) in
      record {
        taken = accepted-by (turned draft) head (omega (arith, count, file.some)) (omega (arith, count, file.few)) (omega (arith, count, long)) (λ k l. good k (omega (arith, count)));
        version = file-version 1 (speed_at draft) (flags_at draft) n;
        count = count;
        speeds = λ k l. file-speed 1 (speed_at draft) (flags_at draft) n k l;
        flags = λ k l. file-flags 1 (speed_at draft) (flags_at draft) n k l;
      }

-- ---- mended with nothing left open
pub can-be-turned : (draft : List ℕ) → judge_draft false draft ≡ Ok tt → list_of draft false ≡ [] → judge_draft true (mended draft) ≡ Ok tt
can-be-turned draft read none =
    let count = mended-count draft in
    let file = past false (mended draft) (again draft read).read in
    read_by true (mended draft) file.head file.some file.few file.exact
    (λ k l. (λ i. good-again draft read k (omega (arith, count)) i && not (known k (omega (arith, count)) i)))
  where
    known : (k : ℕ) → k < count_of draft → missing_at (mended draft) k ≡ false
    known k l = missing-open draft read k l ∙ go (open_at draft k) refl
      where
        go : (b : Bool) → open_at draft k ≡ b → open_at draft k ≡ false
        go false is = is
        go true is = absurd (on_none (subst (λ (list : List ℕ). On list (suc k)) none (held_on (listed_at draft false) (count_of draft) k l is)))
