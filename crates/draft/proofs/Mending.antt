-- What mending gives, second by second, over every draft that is read. Assumes nothing.
use mathlib.Core.Path.{◌≡◌, refl, sym, ap, subst, ◌∙◌}
use mathlib.Core.Bool.{Bool, true, false, not, ◌&&◌, false≢true}
use mathlib.Core.List.{List}
use Prim.Native.Nat.{ℕ, ◌+◌, ◌≤◌, ◌<◌}
use native.Mathlib.Numerals.{add-one}
use native.Mathlib.Omega.{arith}
use Rattle.std.specs.Prelude.{Ok}
use Rattle.refusal.proofs.Ranges.{both}
use Rattle.house.specs.House.{count_of, speed_at, flags_at, zero_at, phase_of, no_shift, no_first, missing, missing_at, draft_allows}
use Rattle.house.proofs.Versions.{good-parts}
use Rattle.house.proofs.Drafts.{missing-flags, few-known, taken-few, taken-phase, taken-shift, taken-first}
use Rattle.house.proofs.Written.{file-length, file-version, file-count, file-speed, file-flags, file-zero}
use Rattle.draft.specs.Draft.{judge_draft, gap_to, is_bounded, changed_at, open_at, mended_flags, mended, listed_at, list_of}
use Rattle.draft.specs.Statements.{On, Bounded, Unaltered, Filled, Mending}
use Rattle.draft.proofs.Gaps.{flags-by}
use Rattle.draft.proofs.Answers.{past, each-good}
use Rattle.draft.proofs.Listing.{on-held, held_on, rises}
use Rattle.draft.proofs.Bounds.{changed-bounded, bounded-changed, bounded-to}

-- what is read of the mended draft
module _ (draft : List ℕ) where
  abbrev n : ℕ
  n = count_of draft

  pub mended-speed : (k : ℕ) → k < n → speed_at (mended draft) k ≡ speed_at draft k
  mended-speed k l = file-speed 3 (speed_at draft) (mended_flags draft) n k l

  pub mended-at : (k : ℕ) → k < n → flags_at (mended draft) k ≡ mended_flags draft k
  mended-at k l = file-flags 3 (speed_at draft) (mended_flags draft) n k l

  pub mended-zero : (k : ℕ) → k < n → zero_at (mended draft) k ≡ 0
  mended-zero k l = file-zero 3 (speed_at draft) (mended_flags draft) n k l

  pub mended-count : count_of (mended draft) ≡ n
  mended-count = file-count 3 (speed_at draft) (mended_flags draft) n

module _ (draft : List ℕ) (read : judge_draft false draft ≡ Ok tt) where
  -- what 4 has left of a second
  pub allowed : (k : ℕ) → k < count_of draft → (speed_at draft k ≤ 2000) × (draft_allows (flags_at draft k) ≡ true) × (zero_at draft k ≡ 0)
  allowed k l = good-parts (draft_allows (flags_at draft k)) (speed_at draft k) (zero_at draft k) (each-good false draft read k l).0

  -- ---- on a list, and so
  on_list : (which : Bool) (k : ℕ) → On (list_of draft which) (k + 1) → (k < count_of draft) × (listed_at draft which k ≡ true)
  on_list which k o =
      let held = on-held (listed_at draft which) (count_of draft) o in
      let is = held.is in
      let same : held.second ≡ k = omega (arith, is) in
      let within = held.within in
      (omega (arith, within, same), ap (listed_at draft which) (sym same) ∙ held.so)

  put_on : (which : Bool) (k : ℕ) → k < count_of draft → listed_at draft which k ≡ true → On (list_of draft which) (k + 1)
  put_on which k l so = subst (On (list_of draft which)) (sym (add-one k)) (held_on (listed_at draft which) (count_of draft) k l so)

  listed-missing : (which : Bool) (k : ℕ) → listed_at draft which k ≡ true → missing_at draft k ≡ true
  listed-missing true k e = (both (missing_at draft k) (is_bounded draft k) e).0
  listed-missing false k e = (both (missing_at draft k) (not (is_bounded draft k)) e).0

  pub not-both : (missing bounded : Bool) → (missing && bounded) ≡ true → (missing && not bounded) ≡ true → ⊥
  not-both true true e f = false≢true f
  not-both true false e f = false≢true e
  not-both false bounded e f = false≢true e

  pub else-open : (missing bounded : Bool) → missing ≡ true → (missing && bounded) ≡ false → (missing && not bounded) ≡ true
  else-open true true m e = absurd (false≢true (sym e))
  else-open true false m e = refl
  else-open false bounded m e = absurd (false≢true m)

  -- not on the list of those changed
  not-changed : (k : ℕ) → k < count_of draft → (On (list_of draft true) (k + 1) → ⊥) → changed_at draft k ≡ false
  not-changed k l off = go (changed_at draft k) refl
    where
      go : (b : Bool) → changed_at draft k ≡ b → changed_at draft k ≡ false
      go true is = absurd (off (put_on true k l is))
      go false is = is

  -- ---- a second that is not changed
  pub unaltered : (k : ℕ) → k < count_of draft → changed_at draft k ≡ false → Unaltered draft k
  unaltered k l e = record {
    speed = mended-speed draft k l;
    flags = mended-at draft k l ∙ flags-by draft k e;
    fourth = mended-zero draft k l ∙ sym (allowed k l).2;
  }

  -- ---- and one that is
  pub filled-few : (k : ℕ) → Bounded draft k → mended_flags draft k ≤ 15
  filled-few k b =
      let later = b.later in
      let inside = b.inside in
      let parts = missing-flags (flags_at draft k) (allowed k (omega (arith, later, inside))).1 (b.gap k b.earlier later) in
      let is = flags-by draft k (bounded-changed draft k b) in
      let few = taken-few (flags_at draft k) (phase_of (flags_at draft (gap_to draft k))) parts.0 parts.1 parts.2 (omega arith) in
      omega (arith, is, few)

  pub filled : (k : ℕ) (b : Bounded draft k) → Filled draft k b
  filled k b =
      let later = b.later in
      let inside = b.inside in
      let l : k < count_of draft = omega (arith, later, inside) in
      let changed = bounded-changed draft k b in
      let flags = flags_at draft k in
      let parts = missing-flags flags (allowed k l).1 (b.gap k b.earlier later) in
      let phase = phase_of (flags_at draft (gap_to draft k)) in
      let few : phase < 4 = omega arith in
      let is = mended-at draft k l ∙ flags-by draft k changed in
      record {
        speed = mended-speed draft k l;
        known = ap missing (mended-at draft k l) ∙ (few-known (mended_flags draft k) (filled-few k b)).1;
        phase = ap phase_of is ∙ taken-phase flags phase parts.0 parts.1 parts.2 few ∙ ap (λ (i : ℕ). phase_of (flags_at draft i)) (bounded-to draft k b) ∙ sym b.phases;
        first_mark = ap no_shift is ∙ taken-shift flags phase parts.0 parts.1 parts.2 few;
        second_mark = ap no_first is ∙ taken-first flags phase parts.0 parts.1 parts.2 few;
        fourth = mended-zero draft k l ∙ sym (allowed k l).2;
      }

  -- ---- the whole
  pub mending : Mending draft
  mending =
      let long = file-length 3 (speed_at draft) (mended_flags draft) (count_of draft) in
      let file = past false draft read in
      record {
        version = file-version 3 (speed_at draft) (mended_flags draft) (count_of draft);
        count = mended-count draft;
        long = long ∙ sym file.exact;
        unaltered = λ k l off. unaltered k l (not-changed k l off);
        bounded = λ k o. let on = on_list true k o in changed-bounded draft k on.0 on.1;
        filled = filled;
        changed = λ k b. put_on true k (let later = b.later in let inside = b.inside in omega (arith, later, inside)) (bounded-changed draft k b);
        rising = λ which. rises (listed_at draft which) (count_of draft);
        apart = λ second o p. two-lists second o p;
        missing = λ which k o. let on = on_list which k o in (on.0, listed-missing which k on.1);
        left_open = λ k l m off. put_on false k l (else-open (missing_at draft k) (is_bounded draft k) m (not-changed k l off));
      }
    where
      two-lists : (second : ℕ) → On (list_of draft true) second → On (list_of draft false) second → ⊥
      two-lists second o p =
          let one = on-held (listed_at draft true) (count_of draft) o in
          let other = on-held (listed_at draft false) (count_of draft) p in
          let is = one.is in
          let was = other.is in
          let same : other.second ≡ one.second = omega (arith, is, was) in
          not-both (missing_at draft one.second) (is_bounded draft one.second) one.so (ap (open_at draft) (sym same) ∙ other.so)
