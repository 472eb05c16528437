-- The gap of a second by that of the second before it, and where a gap begins and ends. Assumes nothing.
use mathlib.Core.Path.{◌≡◌, refl, sym, ap, ◌∙◌}
use mathlib.Core.Bool.{Bool, true, false, cond, not, ◌&&◌}
use mathlib.Core.List.{List}
use Prim.Native.Nat.{ℕ, zero, suc, ◌+◌, ◌-◌, ◌≤◌, ◌<◌}
use native.Mathlib.Numerals.{add-one}
use native.Mathlib.Omega.{arith}
use lib.Dec.{leb, ltb}
use borrow.Author.Tests.{ltb-true, lt-ltb, le-ltb}
use Rattle.refusal.proofs.Ranges.{both}
use Rattle.walk.proofs.Walk.{scan-on, scan-out}
use Rattle.walk.proofs.Ends.{Ends, search-ends}
use Rattle.house.specs.House.{count_of, flags_at, phase_of, missing_at, with_phase}
use Rattle.draft.specs.declared.Gap.{Gap}
use Rattle.draft.specs.Draft.{gap_from, gap_to, alike, bounded, is_bounded, changed_at, mended_flags, listed_at}
use Rattle.draft.specs.Gap.{gap_of, gap_before, listed_by}

module _ (draft : List ℕ) where
  abbrev n : ℕ
  n = count_of draft

  -- all from k to before its end are missing, and the end is known, or that of the draft
  pub gap_ends : (k : ℕ) → k ≤ n → Ends (missing_at draft) n k (gap_to draft k)
  gap_ends k l = search-ends (missing_at draft) n k (n - k) (omega arith)

  pub to-known : (k : ℕ) → k < n → missing_at draft k ≡ false → gap_to draft k ≡ k
  to-known k l e = scan-out (missing_at draft) _ _ n k l e

  pub to-missing : (k : ℕ) → k < n → missing_at draft k ≡ true → gap_to draft k ≡ gap_to draft (k + 1)
  to-missing k l e = scan-on (missing_at draft) _ _ n k l e

  -- a second is missing just where its gap goes on behind it
  pub missing-past : (k : ℕ) → k < n → missing_at draft k ≡ true → k < gap_to draft k
  missing-past k l e =
      let low = (gap_ends (k + 1) (omega arith)).low in
      let same = to-missing k l e in
      omega (arith, low, same)

  pub past-missing : (k : ℕ) → k < n → k < gap_to draft k → missing_at draft k ≡ true
  past-missing k l past = (gap_ends k (omega arith)).inside k (omega arith) past

  pub at-known : (k : ℕ) → k < n → gap_to draft k ≡ k → missing_at draft k ≡ false
  at-known k l e = go (missing_at draft k) refl
    where
      go : (b : Bool) → missing_at draft k ≡ b → missing_at draft k ≡ false
      go false is = is
      go true is = let past = missing-past k l is in absurd (omega (arith, past, e))

  -- ---- a gap that goes on is the gap of the next second too
  gap-goes-on : (k : ℕ) → suc k < n → suc k < gap_to draft k → gap_of draft k ≡ gap_of draft (suc k)
  unfolding gap_from
  gap-goes-on k l past =
      let ends = gap_ends k (omega arith) in
      let here = ends.inside k (omega arith) (omega (arith, past)) in
      let next = ends.inside (suc k) (omega arith) past in
      let to : gap_to draft k ≡ gap_to draft (suc k) = to-missing k (omega arith) here ∙ ap (gap_to draft) (add-one k) in
      let from : gap_from draft k ≡ gap_from draft (suc k) = sym (ap (λ (b : Bool). cond b (gap_from draft k) (suc k)) here) in
      let missing : missing_at draft k ≡ missing_at draft (suc k) = here ∙ sym next in
      (λ i. record { to = to i; taken = missing i && bounded draft (from i) (to i) })

  pub same_gap : (k : ℕ) → k < n → k < (gap_before draft k).to → gap_before draft k ≡ gap_of draft k
  same_gap zero l past = absurd (omega arith)
  same_gap (suc k) l past = gap-goes-on k l past

  -- ---- a gap that is not that of the second before begins here
  after-known : (k : ℕ) → suc k < n → gap_to draft k ≤ suc k → missing_at draft (suc k) ≡ true → missing_at draft k ≡ false
  after-known k l short e = go (missing_at draft k) refl
    where
      go : (b : Bool) → missing_at draft k ≡ b → missing_at draft k ≡ false
      go false is = is
      go true is =
          let to = to-missing k (omega arith) is ∙ ap (gap_to draft) (add-one k) in
          let past = missing-past (suc k) l e in
          absurd (omega (arith, to, past, short))

  pub begins-here : (k : ℕ) → k < n → (gap_before draft k).to ≤ k → missing_at draft k ≡ true → gap_from draft k ≡ k
  unfolding gap_from
  begins-here zero l short e = refl
  begins-here (suc k) l short e = ap (λ (b : Bool). cond b (gap_from draft k) (suc k)) (after-known k l short e)

  pub known-gap : (k : ℕ) → k < n → gap_to draft k ≡ k → record { to = k; taken = false } ≡ gap_of draft k
  known-gap k l e = (λ i. record { to = sym e i; taken = sym (at-known k l e) i && is_bounded draft k })

  pub new-gap : (k to : ℕ) {taken : Bool} → k < n → (gap_before draft k).to ≤ k → to ≡ gap_to draft k → k < to → taken ≡ bounded draft k to
      → record { to = to; taken = taken } ≡ gap_of draft k
  new-gap k to l short e past is =
      let missing = past-missing k l (omega (arith, e)) in
      let from = begins-here k l short missing in
      (λ i. record { to = e i; taken = (is ∙ (λ i. sym missing i && bounded draft (sym from i) (e i))) i })

  -- ---- which list a second is on
  left_open_lem : (missing taken : Bool) → (missing && not (missing && taken)) ≡ (missing && not taken)
  left_open_lem true taken = refl
  left_open_lem false taken = refl

  past-is-missing : (k : ℕ) → k < n → ltb k (gap_to draft k) ≡ missing_at draft k
  past-is-missing k l = go (missing_at draft k) refl
    where
      go : (b : Bool) → missing_at draft k ≡ b → ltb k (gap_to draft k) ≡ missing_at draft k
      go true is = lt-ltb k (gap_to draft k) (missing-past k l is) ∙ sym is
      go false is = let e = to-known k l is in le-ltb k (gap_to draft k) (omega (arith, e)) ∙ sym is

  pub listed_by_lem : (k : ℕ) (changed : Bool) → k < n → listed_by (gap_of draft k) k changed ≡ listed_at draft changed k
  listed_by_lem k true l = refl
  listed_by_lem k false l =
      ap (λ (b : Bool). b && not (changed_at draft k)) (past-is-missing k l) ∙ left_open_lem (missing_at draft k) (is_bounded draft k)

  -- ---- a gap that takes a phase has a second behind it
  pub changed-before-end : (k : ℕ) → changed_at draft k ≡ true → gap_to draft k < n
  changed-before-end k e =
      let from = gap_from draft k in
      let to = gap_to draft k in
      let sides = (both (leb 1 from) (ltb to n && alike draft from to) (both (missing_at draft k) (is_bounded draft k) e).1).1 in
      ltb-true to n (both (ltb to n) (alike draft from to) sides).0

  -- ---- the flags of a second, by whether it is changed
  pub flags-by : (k : ℕ) {b : Bool} → changed_at draft k ≡ b
      → mended_flags draft k ≡ cond b (with_phase (flags_at draft k) (phase_of (flags_at draft (gap_to draft k)))) (flags_at draft k)
  flags-by k e = ap (λ (b : Bool). cond b (with_phase (flags_at draft k) (phase_of (flags_at draft (gap_to draft k)))) (flags_at draft k)) e

  -- ---- a turn of a loop that carries the gap
  pub gap-next : (k : ℕ) {gap : Gap} → gap ≡ gap_of draft k → gap ≡ gap_before draft (k + 1)
  gap-next k e = e ∙ sym (ap (gap_before draft) (add-one k))
