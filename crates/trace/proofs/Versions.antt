-- A version 1 trace without marks and the version 2 trace of the same seconds are judged alike, and have the same seconds (02, M-109). Assumes nothing.
use mathlib.Core.Path.{◌≡◌, refl, sym, ap, ◌∙◌}
use mathlib.Core.Bool.{Bool, true, false, not, ◌&&◌, ◌||◌, false≢true}
use mathlib.Core.List.{List}
use Prim.Native.Nat.{ℕ, ◌+◌, ◌*◌, ◌/◌, ◌%◌, ◌<◌}
use native.Mathlib.Decide.{dec_lt}
use native.Mathlib.Omega.{arith}
use lib.ListN.{length, get_or, length-set, get_or-eq_default}
use lib.Seq.{get_or-set_same, get_or-set_other}
use lib.Dec.{eqb, leb}
use borrow.Author.Tests.{eqb-false, le-leb, lt-leb}
use Rattle.std.specs.Prelude.{Ok, Err}
use Rattle.refusal.specs.Judging.{Judged, checked}
use Rattle.refusal.specs.declared.Refusal.TheVariants.{Header, Count, Length, Marked}
use Rattle.walk.proofs.Same.{scan-same, scan_good}
use Rattle.house.specs.House.{version_of, readable, allows, headed, count_of, speed_at, flags_at, zero_at, no_shift, no_first, marked, marked_at, second_good}
use Rattle.house.proofs.Versions.{or-false}
use Rattle.trace.specs.Judging.{countable, judge_seconds, judge_trace, judge_marks}
use Rattle.trace.specs.Versions.{in_version2, Plain}

-- ---- flags without a mark: up to 15 they are the phase alone
unset : (a b : Bool) → (a || b) ≡ false → (a ≡ false) × (b ≡ false)
unset false b e = (refl, e)
unset true b e = absurd (false≢true (sym e))

phase-alone : (flags : ℕ) → marked flags ≡ false → leb flags 15 ≡ leb flags 3
phase-alone flags e = go (dec_lt 3 flags) (dec_lt 15 flags)
  where
    go : Dec (3 < flags) → Dec (15 < flags) → leb flags 15 ≡ leb flags 3
    go (no few) (no low) = le-leb flags 15 (omega arith) ∙ sym (le-leb flags 3 (omega arith))
    go (no few) (yes high) = absurd (omega arith)
    go (yes more) (yes high) = lt-leb flags 15 high ∙ sym (lt-leb flags 3 more)
    go (yes more) (no low) =
        let none = unset (no_shift flags) (no_first flags) e in
        absurd (by_bit (eqb-false (flags / 4 % 2) 1 none.0) (eqb-false (flags / 8 % 2) 1 none.1) (dec_lt 7 flags))
      where
        -- from 4 to 7 bit 2 is set, and from 8 to 15 bit 3
        by_bit : (flags / 4 % 2 ≡ 1 → ⊥) → (flags / 8 % 2 ≡ 1 → ⊥) → Dec (7 < flags) → ⊥
        by_bit shift first (yes high) = let one : flags / 8 ≡ 1 = omega arith in first (ap (λ (q : ℕ). q % 2) one)
        by_bit shift first (no few) = let one : flags / 4 ≡ 1 = omega arith in shift (ap (λ (q : ℕ). q % 2) one)

module _ (trace : List ℕ) (plain : Plain trace) where
  abbrev second : List ℕ
  second = in_version2 trace

  byte-same : (j : ℕ) → (j ≡ 4 → ⊥) → get_or second j 0 ≡ get_or trace j 0
  byte-same j off = get_or-set_other trace 4 j 2 0 off

  pub flags-same : (k : ℕ) → flags_at second k ≡ flags_at trace k
  flags-same k = byte-same (4 * k + 10) (λ (e : 4 * k + 10 ≡ 4). omega arith)

  pub speeds-same : (k : ℕ) → speed_at second k ≡ speed_at trace k
  speeds-same k =
      let low = byte-same (4 * k + 8) (λ (e : 4 * k + 8 ≡ 4). omega arith) in
      let high = byte-same (4 * k + 8 + 1) (λ (e : 4 * k + 8 + 1 ≡ 4). omega arith) in
      (λ i. low i + 256 * high i)

  zero_same : (k : ℕ) → zero_at second k ≡ zero_at trace k
  zero_same k = byte-same (4 * k + 11) (λ (e : 4 * k + 11 ≡ 4). omega arith)

  pub count_same : count_of second ≡ count_of trace
  count_same =
      let low = byte-same 6 (λ (e : 6 ≡ 4). omega arith) in
      let high = byte-same 7 (λ (e : 7 ≡ 4). omega arith) in
      (λ i. low i + 256 * high i)

  pub length-same : length second ≡ length trace
  length-same = length-set trace 4 2

  -- a trace that has a version reaches so far
  long : 4 < length trace
  long = go (dec_lt 4 (length trace))
    where
      go : Dec (4 < length trace) → 4 < length trace
      go (yes l) = l
      go (no short) =
          let low = get_or-eq_default trace 0 {n = 4} (omega arith) in
          let high = get_or-eq_default trace 0 {n = 5} (omega arith) in
          absurd (omega (arith, plain.first, low, high))

  version-second : version_of second ≡ 2
  version-second =
      let low = get_or-set_same trace 4 2 0 long in
      let high = byte-same 5 (λ (e : 5 ≡ 4). omega arith) in
      let none : get_or trace 5 0 ≡ 0 = omega (arith, plain.first) in
      (λ i. low i + 256 * (high ∙ none) i)

  head-same : headed second ≡ headed trace
  head-same =
      let readable-both : readable (version_of second) ≡ readable (version_of trace) = ap readable version-second ∙ sym (ap readable plain.first) in
      let w = byte-same 0 (λ (e : 0 ≡ 4). omega arith) in
      let t = byte-same 1 (λ (e : 1 ≡ 4). omega arith) in
      let r = byte-same 2 (λ (e : 2 ≡ 4). omega arith) in
      let z = byte-same 3 (λ (e : 3 ≡ 4). omega arith) in
      (λ i. leb 8 (length-same i) && (eqb (w i) 87 && eqb (t i) 84 && eqb (r i) 82 && eqb (z i) 0 && readable-both i))

  allowed_same : (k : ℕ) → k < count_of trace → allows (version_of second) (flags_at second k) ≡ allows (version_of trace) (flags_at trace k)
  allowed_same k l =
      (λ i. allows (version-second i) (flags-same k i)) ∙ sym (phase-alone (flags_at trace k) (plain.unmarked k l)) ∙ or-false (leb (flags_at trace k) 15)
      ∙ sym (ap (λ (version : ℕ). allows version (flags_at trace k)) plain.first)

  good-same : (k : ℕ) → k < count_of trace → second_good second k ≡ second_good trace k
  good-same k l = (λ i. leb (speeds-same k i) 2000 && allowed_same k l i && eqb (zero_same k i) 0)

  pub judged-same : judge_trace second ≡ judge_trace trace
  unfolding judge_trace
  judged-same =
      (λ i. checked (head-same i) Header (checked (countable (count_same i)) Count (checked (eqb (length-same i) (8 + 4 * count_same i)) Length (judge_seconds second 0 (count_same i)))))
      ∙ ap (λ (j : Judged). checked (headed trace) Header (checked (countable (count_of trace)) Count (checked (eqb (length trace) (8 + 4 * count_of trace)) Length j)))
      (scan-same _ _ (second_good second) (second_good trace) 0 (count_of trace) (λ j l. good-same j (omega arith)))

  -- neither has a mark to be refused
  unmarked-second : (k : ℕ) → not (marked_at second k) ≡ true
  unmarked-second k = ap (λ (version : ℕ). not (eqb version 1 && marked (flags_at second k))) version-second

  unmarked-first : (k : ℕ) → k < count_of trace → not (marked_at trace k) ≡ true
  unmarked-first k l = (λ i. not (eqb (plain.first i) 1 && plain.unmarked k l i))

  pub marks-same : judge_marks second 0 (count_of second) ≡ judge_marks trace 0 (count_of trace)
  marks-same =
      scan_good (λ k. Err (Marked (k + 1))) (λ k. Ok tt) (λ k. not (marked_at second k)) 0 (count_of second) (λ j l. unmarked-second j)
      ∙ sym (scan_good (λ k. Err (Marked (k + 1))) (λ k. Ok tt) (λ k. not (marked_at trace k)) 0 (count_of trace) (λ j l. unmarked-first j (omega arith)))
