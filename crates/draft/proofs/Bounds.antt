-- A second is changed just where known seconds with its speed and one phase bound its gap: the searches of the definition against the statement without them. Assumes nothing.
use mathlib.Core.Path.{◌≡◌, refl, sym, ap, ◌∙◌}
use mathlib.Core.Bool.{Bool, true, false, cond, ◌&&◌, false≢true}
use mathlib.Core.List.{List}
use Prim.Native.Nat.{ℕ, zero, suc, ◌+◌, ◌-◌, ◌≤◌, ◌<◌}
use native.Mathlib.Decide.{dec_lt}
use native.Mathlib.Omega.{arith}
use lib.Dec.{eqb, leb, ltb}
use borrow.Author.Tests.{eqb-true, leb-true, ltb-true, eq-eqb, le-leb, lt-ltb}
use Rattle.refusal.proofs.Ranges.{both}
use Rattle.walk.specs.Walk.{scan}
use Rattle.walk.proofs.Walk.{scan-all}
use Rattle.walk.proofs.Ends.{ends_at}
use Rattle.house.specs.House.{count_of, speed_at, flags_at, phase_of, missing_at}
use Rattle.draft.specs.Draft.{gap_from, gap_to, level, alike, bounded, is_bounded, changed_at}
use Rattle.draft.specs.Statements.{Bounded}
use Rattle.draft.proofs.Gaps.{gap_ends}

module _ (draft : List ℕ) where
  abbrev n : ℕ
  n = count_of draft

  -- ---- where a gap begins
  pub record Begins (k from : ℕ) : Type 0 where
    pub low : from ≤ k
    pub inside : (i : ℕ) → from ≤ i → i < k → missing_at draft i ≡ true
    pub beyond : 1 ≤ from → missing_at draft (from - 1) ≡ false

  gap-begins : (k : ℕ) → Begins k (gap_from draft k)
  unfolding gap_from
  gap-begins zero = record { low = omega arith; inside = λ i h l. absurd (let z : ⊥ = omega arith in z); beyond = λ h. absurd (let z : ⊥ = omega arith in z) }
  gap-begins (suc k) = go (missing_at draft k) refl (gap-begins k)
    where
      go : (b : Bool) → missing_at draft k ≡ b → Begins k (gap_from draft k) → Begins (suc k) (cond b (gap_from draft k) (suc k))
      go true is before =
          let low = before.low in
          record { low = omega (arith, low); inside = λ i h l. last i h l (dec_lt i k); beyond = before.beyond }
        where
          last : (i : ℕ) → gap_from draft k ≤ i → i < suc k → Dec (i < k) → missing_at draft i ≡ true
          last i h l (yes earlier) = before.inside i h earlier
          last i h l (no here) = let same : i ≡ k = omega arith in ap (missing_at draft) same ∙ is
      go false is before = record { low = omega arith; inside = λ i h l. absurd (let z : ⊥ = omega arith in z); beyond = λ h. let back : suc k - 1 ≡ k = omega arith in ap (missing_at draft) back ∙ is }

  -- there is one such place only
  begins-low : (k from m : ℕ) → Begins k from → m ≤ k → ((i : ℕ) → m ≤ i → i < k → missing_at draft i ≡ true) → from ≤ m
  begins-low k from m b h all = go (dec_lt m from)
    where
      go : Dec (m < from) → from ≤ m
      go (yes past) =
          let low = b.low in
          absurd (false≢true (sym (b.beyond (omega arith)) ∙ all (from - 1) (omega arith) (omega (arith, low))))
      go (no within) = omega arith

  begins-at : (k from m : ℕ) → Begins k from → m ≤ k → ((i : ℕ) → m ≤ i → i < k → missing_at draft i ≡ true) → 1 ≤ m → missing_at draft (m - 1) ≡ false → from ≡ m
  begins-at k from m b h all some known = go (dec_lt from m) (begins-low k from m b h all)
    where
      go : Dec (from < m) → from ≤ m → from ≡ m
      go (yes early) low = absurd (false≢true (sym known ∙ b.inside (m - 1) (omega arith) (omega arith)))
      go (no late) low = omega arith

  -- ---- equal speeds
  levels : (from to : ℕ) → from ≤ to → level draft from to ≡ true → (i : ℕ) → from ≤ i → i < to → speed_at draft i ≡ speed_at draft from
  levels from to h e i low high =
      let same : from + (i - from) ≡ i = omega arith in
      let good = scan-all (λ k. eqb (speed_at draft k) (speed_at draft from)) (λ k. false) (λ k. true) true (λ k. false≢true) from (to - from) e (i - from) (omega arith) in
      ap (speed_at draft) (sym same) ∙ eqb-true (speed_at draft (from + (i - from))) (speed_at draft from) good

  is-level : (from m k : ℕ) → ((i : ℕ) → k ≤ i → i < k + m → speed_at draft i ≡ speed_at draft from)
      → scan (λ k. eqb (speed_at draft k) (speed_at draft from)) (λ k. false) (λ k. true) k m ≡ true
  is-level from zero k all = refl
  is-level from (suc m) k all =
      ap (λ (b : Bool). cond b (scan (λ k. eqb (speed_at draft k) (speed_at draft from)) (λ k. false) (λ k. true) (k + 1) m) false)
      (eq-eqb (speed_at draft k) (speed_at draft from) (all k (omega arith) (omega arith)))
      ∙ is-level from m (k + 1) (λ i h l. all i (omega arith) (omega arith))

  -- ---- changed, and so bounded
  pub changed-bounded : (k : ℕ) → k < n → changed_at draft k ≡ true → Bounded draft k
  changed-bounded k l e =
      let from = gap_from draft k in
      let to = gap_to draft k in
      let equal = eqb (phase_of (flags_at draft (from - 1))) (phase_of (flags_at draft to)) in
      let same = level draft (from - 1) (to + 1) in
      let first = both (missing_at draft k) (is_bounded draft k) e in
      let second = both (leb 1 from) (ltb to n && alike draft from to) first.1 in
      let third = both (ltb to n) (alike draft from to) second.1 in
      let fourth = both equal same third.1 in
      let some = leb-true 1 from second.0 in
      let within = ltb-true to n third.0 in
      let begins = gap-begins k in
      let low = begins.low in
      let ends = gap_ends draft k (omega arith) in
      let high = ends.low in
      let past : k < to = not-here k to high first.0 (ends.beyond within) in
      record {
        before = from - 1;
        after = to;
        earlier = omega (arith, low, some);
        later = past;
        inside = within;
        gap = λ i h j. whole k i from to begins.inside first.0 ends.inside (omega (arith, some, h)) j (dec_lt i k);
        known_before = begins.beyond some;
        known_after = ends.beyond within;
        phases = eqb-true (phase_of (flags_at draft (from - 1))) (phase_of (flags_at draft to)) fourth.0;
        speeds = λ i h j. levels (from - 1) (to + 1) (omega (arith, low, high)) fourth.1 i h (omega arith);
      }
    where
      -- the end is no missing second
      not-here : (k to : ℕ) → k ≤ to → missing_at draft k ≡ true → missing_at draft to ≡ false → k < to
      not-here k to high missing known = at (dec_lt k to)
        where
          at : Dec (k < to) → k < to
          at (yes past) = past
          at (no here) =
              let same : to ≡ k = omega arith in
              absurd (false≢true (sym known ∙ ap (missing_at draft) same ∙ missing))

      whole : (k i from to : ℕ) → ((i : ℕ) → from ≤ i → i < k → missing_at draft i ≡ true) → missing_at draft k ≡ true → ((i : ℕ) → k ≤ i → i < to → missing_at draft i ≡ true)
          → from ≤ i → i < to → Dec (i < k) → missing_at draft i ≡ true
      whole k i from to front here back h j (yes earlier) = front i h earlier
      whole k i from to front here back h j (no later) = back i (omega arith) j

  -- ---- bounded, and so changed
  bounded-from : (k : ℕ) (b : Bounded draft k) → gap_from draft k ≡ b.before + 1
  bounded-from k b =
      let earlier = b.earlier in
      let later = b.later in
      let back : b.before + 1 - 1 ≡ b.before = omega arith in
      begins-at k (gap_from draft k) (b.before + 1) (gap-begins k) (omega (arith, earlier)) (λ i h l. b.gap i (omega arith) (omega (arith, l, later))) (omega arith) (ap (missing_at draft) back ∙ b.known_before)

  pub bounded-to : (k : ℕ) (b : Bounded draft k) → gap_to draft k ≡ b.after
  bounded-to k b =
      let earlier = b.earlier in
      let later = b.later in
      let inside = b.inside in
      ends_at (missing_at draft) n k (gap_to draft k) b.after (gap_ends draft k (omega (arith, later, inside))) (omega (arith, later)) (omega (arith, inside))
      (λ i h l. b.gap i (omega (arith, earlier, h)) l)
      (λ l. b.known_after)

  pub bounded-changed : (k : ℕ) → Bounded draft k → changed_at draft k ≡ true
  bounded-changed k b =
      let earlier = b.earlier in
      let later = b.later in
      let back : b.before + 1 - 1 ≡ b.before = omega arith in
      let from = bounded-from k b in
      let to = bounded-to k b in
      let missing = b.gap k earlier later in
      let some = le-leb 1 (b.before + 1) (omega arith) in
      let within = lt-ltb b.after n b.inside in
      let equal = eq-eqb (phase_of (flags_at draft b.before)) (phase_of (flags_at draft b.after)) b.phases in
      let same = is-level b.before (b.after + 1 - b.before) b.before (λ i h l. b.speeds i h (omega (arith, l, earlier, later))) in
      (λ i. missing i && bounded draft (from i) (to i))
      ∙ (λ i. some i && (within i && (eqb (phase_of (flags_at draft (back i))) (phase_of (flags_at draft b.after)) && level draft (back i) (b.after + 1))))
      ∙ (λ i. equal i && same i)
