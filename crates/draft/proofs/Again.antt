-- Mending what was mended changes nothing: a second that is still open was open, and a gap that is bounded now was bounded then. Assumes nothing.
use mathlib.Core.Path.{◌≡◌, refl, sym, ap, ◌∙◌}
use mathlib.Core.Bool.{Bool, true, false, not, ◌&&◌, false≢true}
use mathlib.Core.List.{List, ◌++◌}
use Prim.Native.Nat.{ℕ, ◌+◌, ◌-◌, ◌<◌}
use native.Mathlib.Decide.{dec_lt}
use native.Mathlib.Omega.{arith}
use lib.ListN.{length}
use borrow.Author.Tests.{le-leb}
use Rattle.std.specs.Prelude.{Ok}
use Rattle.refusal.proofs.Ranges.{both}
use Rattle.house.specs.House.{count_of, speed_at, zero_at, phase_of, missing, missing_at, draft_headed, draft_allows, draft_good}
use Rattle.house.specs.Written.{head_of, seconds_to, file_of}
use Rattle.house.proofs.Versions.{parts-good}
use Rattle.house.proofs.Drafts.{few-known}
use Rattle.house.proofs.Written.{file-length, seconds-same}
use Rattle.draft.specs.Draft.{judge_draft, is_bounded, changed_at, open_at, mended_flags, mended, listed_at, seconds_where}
use Rattle.draft.specs.Statements.{Bounded, Again}
use Rattle.draft.proofs.Gaps.{flags-by}
use Rattle.draft.proofs.Answers.{past, read_by}
use Rattle.draft.proofs.Listing.{where-same, where-nowhere}
use Rattle.draft.proofs.Bounds.{changed-bounded, bounded-changed}
use Rattle.draft.proofs.Mending.{mended-speed, mended-at, mended-zero, mended-count, allowed, not-both, else-open, unaltered, filled, filled-few}

module _ (draft : List ℕ) (read : judge_draft false draft ≡ Ok tt) where
  abbrev n : ℕ
  n = count_of draft

  abbrev m : List ℕ
  m = mended draft

  -- ---- what is missing still is what was left open
  pub missing-open : (k : ℕ) → k < n → missing_at m k ≡ open_at draft k
  missing-open k l = go (changed_at draft k) refl (missing_at draft k) refl
    where
      go : (b : Bool) → changed_at draft k ≡ b → (c : Bool) → missing_at draft k ≡ c → missing_at m k ≡ open_at draft k
      go true is c e =
          let known = (filled draft read k (changed-bounded draft k l is)).known in
          known ∙ sym (not-open is)
        where
          not-open : changed_at draft k ≡ true → open_at draft k ≡ false
          not-open is = by (open_at draft k) refl
            where
              by : (b : Bool) → open_at draft k ≡ b → open_at draft k ≡ false
              by true e = absurd (not-both draft read (missing_at draft k) (is_bounded draft k) is e)
              by false e = e
      go false is true e =
          ap missing (unaltered draft read k l is).flags ∙ e ∙ sym (else-open draft read (missing_at draft k) (is_bounded draft k) e is)
      go false is false e =
          ap missing (unaltered draft read k l is).flags ∙ e ∙ sym (ap (λ (b : Bool). b && not (is_bounded draft k)) e)

  open-not-changed : (k : ℕ) → k < n → missing_at m k ≡ true → changed_at draft k ≡ false
  open-not-changed k l e = go (changed_at draft k) refl
    where
      go : (b : Bool) → changed_at draft k ≡ b → changed_at draft k ≡ false
      go true is = absurd (not-both draft read (missing_at draft k) (is_bounded draft k) is (sym (missing-open k l) ∙ e))
      go false is = is

  open-missing : (k : ℕ) → k < n → missing_at m k ≡ true → missing_at draft k ≡ true
  open-missing k l e = (both (missing_at draft k) (not (is_bounded draft k)) (sym (missing-open k l) ∙ e)).0

  -- ---- a known second beside one that is still missing was known: else both were of one gap, and filled
  beside-before : (k : ℕ) → k + 1 < n → missing_at m (k + 1) ≡ true → changed_at draft k ≡ false
  beside-before k l e = go (changed_at draft k) refl
    where
      go : (b : Bool) → changed_at draft k ≡ b → changed_at draft k ≡ false
      go false is = is
      go true is =
          let b = changed-bounded draft k (omega arith) is in
          let later = b.later in
          let earlier = b.earlier in
          let gap = open-missing (k + 1) l e in
          let on : k + 1 < b.after = not_end b.after later b.known_after gap in
          let next : Bounded draft (k + 1) =
          record { before = b.before; after = b.after; earlier = omega (arith, earlier); later = on; inside = b.inside; gap = b.gap; known_before = b.known_before; known_after = b.known_after; phases = b.phases; speeds = b.speeds } in
          absurd (false≢true (sym (open-not-changed (k + 1) l e) ∙ bounded-changed draft (k + 1) next))
        where
          not_end : (after : ℕ) → k < after → missing_at draft after ≡ false → missing_at draft (k + 1) ≡ true → k + 1 < after
          not_end after later known gap = at (dec_lt (k + 1) after)
            where
              at : Dec (k + 1 < after) → k + 1 < after
              at (yes on) = on
              at (no end) = let same : after ≡ k + 1 = omega arith in absurd (false≢true (sym known ∙ ap (missing_at draft) same ∙ gap))

  beside-after : (k : ℕ) → k + 1 < n → missing_at m k ≡ true → changed_at draft (k + 1) ≡ false
  beside-after k l e = go (changed_at draft (k + 1)) refl
    where
      go : (b : Bool) → changed_at draft (k + 1) ≡ b → changed_at draft (k + 1) ≡ false
      go false is = is
      go true is =
          let b = changed-bounded draft (k + 1) l is in
          let later = b.later in
          let earlier = b.earlier in
          let gap = open-missing k (omega arith) e in
          let on : b.before < k = not_start b.before earlier b.known_before gap in
          let next : Bounded draft k =
          record { before = b.before; after = b.after; earlier = on; later = omega (arith, later); inside = b.inside; gap = b.gap; known_before = b.known_before; known_after = b.known_after; phases = b.phases; speeds = b.speeds } in
          absurd (false≢true (sym (open-not-changed k (omega arith) e) ∙ bounded-changed draft k next))
        where
          not_start : (before : ℕ) → before < k + 1 → missing_at draft before ≡ false → missing_at draft k ≡ true → before < k
          not_start before earlier known gap = at (dec_lt before k)
            where
              at : Dec (before < k) → before < k
              at (yes on) = on
              at (no start) = let same : before ≡ k = omega arith in absurd (false≢true (sym known ∙ ap (missing_at draft) same ∙ gap))

  -- ---- so what bounds a gap now bounded it then
  still-bounded : (k : ℕ) → k < n → Bounded m k → Bounded draft k
  still-bounded k l b =
      let count = mended-count draft in
      let earlier = b.earlier in
      let later = b.later in
      let inside = b.inside in
      let within : b.after < n = omega (arith, inside, count) in
      let first : b.before < n = omega (arith, earlier, l) in
      let before = unaltered draft read b.before first (beside-before b.before (omega (arith, earlier, l)) (b.gap (b.before + 1) (omega arith) (omega (arith, earlier, later)))) in
      let place : b.after - 1 + 1 ≡ b.after = omega (arith, later) in
      let last = sym (ap (changed_at draft) place) ∙ beside-after (b.after - 1) (omega (arith, within, later)) (b.gap (b.after - 1) (omega (arith, earlier, later)) (omega (arith, later))) in
      let after = unaltered draft read b.after within last in
      record {
        before = b.before;
        after = b.after;
        earlier = earlier;
        later = later;
        inside = within;
        gap = λ i h j. open-missing i (omega (arith, j, within)) (b.gap i h j);
        known_before = sym (ap missing before.flags) ∙ b.known_before;
        known_after = sym (ap missing after.flags) ∙ b.known_after;
        phases = sym (ap phase_of before.flags) ∙ b.phases ∙ ap phase_of after.flags;
        speeds = λ i h j. sym (mended-speed draft i (omega (arith, j, within))) ∙ b.speeds i h j ∙ mended-speed draft b.before first;
      }

  -- ---- nothing is changed
  nothing-changed : (k : ℕ) → k < n → changed_at m k ≡ false
  nothing-changed k l = go (changed_at m k) refl
    where
      go : (b : Bool) → changed_at m k ≡ b → changed_at m k ≡ false
      go false is = is
      go true is =
          let count = mended-count draft in
          let b = changed-bounded m k (omega (arith, count)) is in
          let gap = b.gap k b.earlier b.later in
          absurd (false≢true (sym (open-not-changed k l gap) ∙ bounded-changed draft k (still-bounded k l b)))

  open-same : (k : ℕ) → k < n → open_at m k ≡ open_at draft k
  open-same k l = same (missing_at m k) (is_bounded m k) (nothing-changed k l) ∙ missing-open k l
    where
      same : (missing bounded : Bool) → (missing && bounded) ≡ false → (missing && not bounded) ≡ missing
      same true true e = absurd (false≢true (sym e))
      same true false e = refl
      same false bounded e = refl

  -- ---- the mended draft is read
  pub good-again : (k : ℕ) → k < n → draft_good m k ≡ true
  good-again k l =
      let slow = (allowed draft read k l).0 in
      let speed = mended-speed draft k l in
      parts-good (speed_at m k) (zero_at m k) (omega (arith, slow, speed)) (ap draft_allows (mended-at draft k l) ∙ go (changed_at draft k) refl) (mended-zero draft k l)
    where
      go : (b : Bool) → changed_at draft k ≡ b → draft_allows (mended_flags draft k) ≡ true
      go false is = ap draft_allows (flags-by draft k is) ∙ (allowed draft read k l).1
      go true is = (few-known (mended_flags draft k) (filled-few draft read k (changed-bounded draft k l is))).0

  pub again : Again draft
  again =
      let count = mended-count draft in
      let long = file-length 3 (speed_at draft) (mended_flags draft) n in
      let file = past false draft read in
      let few : (k : ℕ) → k < count_of m → k < n = λ k l. omega (arith, count) in
      record {
        read =
            read_by false m (head n) (omega (arith, count, file.some)) (omega (arith, count, file.few)) (omega (arith, count, long)) (λ k l. ap (λ (b : Bool). b && true) (good-again k (few k l)));
        same =
            (λ i. head_of 3 (count i) ++ seconds_to (speed_at m) (mended_flags m) (count i))
            ∙ ap (λ (l : List ℕ). head_of 3 n ++ l)
            (seconds-same (speed_at m) (mended_flags m) (speed_at draft) (mended_flags draft) n (λ k l. mended-speed draft k l) (λ k l. flags-by m k (nothing-changed k l) ∙ mended-at draft k l));
        changed = ap (seconds_where (listed_at m true)) count ∙ where-nowhere (listed_at m true) n (λ k l. nothing-changed k l);
        left_open = ap (seconds_where (listed_at m false)) count ∙ where-same (listed_at m false) (listed_at draft false) n (λ k l. open-same k l);
      }
    where
      head : (n : ℕ) → draft_headed (file_of 3 (speed_at draft) (mended_flags draft) n) ≡ true
      head n =
          let long = file-length 3 (speed_at draft) (mended_flags draft) n in
          ap (λ (b : Bool). b && true) (le-leb 8 (length (file_of 3 (speed_at draft) (mended_flags draft) n)) (omega (arith, long)))
