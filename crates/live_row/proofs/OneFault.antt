-- A trace whose only fault is one second is refused by both engines with the same number and place. Assumes nothing.
use mathlib.Core.Path.{◌≡◌, refl, sym, ap, ◌∙◌}
use mathlib.Core.Bool.{Bool, true, false, not, cond, ◌&&◌, false≢true}
use mathlib.Core.List.{List}
use Prim.Native.Nat.{ℕ, ◌+◌, ◌*◌, ◌≤◌, ◌<◌}
use native.Mathlib.Decide.{dec_lt}
use native.Mathlib.Omega.{arith}
use borrow.Author.Tests.{lt-ltb, leb-true, eq-eqb}
use lib.Dec.{eqb, leb, ltb}
use lib.ListN.{length}
use Rattle.refusal.specs.declared.Refusal.{Refusal}
use Rattle.refusal.specs.declared.Refusal.TheVariants.{Count, Second, Marked, TooClose}
use Rattle.std.specs.Prelude.{Ok, Err}
use Rattle.refusal.specs.Judging.{Judged, checked, and_then}
use Rattle.refusal.proofs.Judging.{checked-holds, refused-not}
use Rattle.refusal.proofs.Ranges.{both}
use Rattle.walk.specs.Walk.{scan}
use Rattle.walk.proofs.Walk.{scan-first}
use Rattle.walk.proofs.Same.{scan_good}
use Rattle.house.specs.House.{version_of, count_of, speed_at, flags_at, zero_at, marked_at, second_good}
use Rattle.house.proofs.Versions.{headed-readable}
use Rattle.trace.specs.Judging.{judge_seconds, judge_trace, judge_marks}
use Rattle.vehicle.specs.declared.VehicleSheet.{VehicleSheet}
use Rattle.vehicle.specs.Sheet.{Sound}
use Rattle.vehicle.proofs.Sound.{accepted-sound}
use Rattle.shift.specs.Speeds.{shift_of, Own}
use Rattle.tenths.specs.Least.{tenths_of}
use Rattle.own.specs.Own.{own_at, judge_close}
use Rattle.own.specs.ByTenths.{second_by_tenths}
use Rattle.own.proofs.ByTenths.{good-by-tenths}
use Rattle.live.proofs.Causal.{received_is}
use Rattle.gear.specs.Sheet.{marks_by, judge_sheet, gear_answer}
use Rattle.prompt.specs.Prompt.{judge_begin, begun, judge_second}
use Rattle.prompt.specs.Run.{Run, run_to}
use Rattle.prompt.proofs.Fate.{own, said_of, Fate, runs, ends, fate}
use Rattle.outcome.specs.Outcome.{outcome_of}
use Rattle.prompt_crossing.specs.declared.LiveState.{LiveState}
use Rattle.live_row.specs.Statements.{said_alone, OneFault, SameRefusal}
use Rattle.live_row.proofs.Calls.{state-is}

module _ (trace : List ℕ) (v : VehicleSheet) (room start k : ℕ) (refusal : Refusal) (f : OneFault trace v room start k refusal) where
  abbrev n : ℕ
  n = count_of trace

  sound : Sound v
  sound = accepted-sound v f.taken

  few : n ≤ 2000
  few = leb-true n 2000 (both (leb 1 n) (leb n 2000) f.counted).1

  -- what is asked of a second, in the order in which it is asked
  abbrev may : ℕ → Bool
  may i = not (eqb v.rules 2 && marked_at trace i)

  abbrev clear : ℕ → Bool
  clear i = not (second_by_tenths (tenths_of (shift_of v)) (flags_at trace i) (speed_at trace i)).close

  abbrev asked : ℕ → Judged
  asked i = checked (second_good trace i) (Second (i + 1)) (checked (may i) (Marked (i + 1)) (checked (clear i) (TooClose (i + 1)) (Ok tt)))

  said-is : (i : ℕ) → i < n → said_alone trace v i ≡ asked i
  unfolding judge_second
  said-is i l = rw (lt-ltb i 2000 (omega (arith, few)))

  -- the other seconds
  record Fine (i : ℕ) : Type 0 where
    good : second_good trace i ≡ true
    unmarked : may i ≡ true
    free : clear i ≡ true

  fine : (i : ℕ) → i < n → (i ≡ k → ⊥) → Fine i
  fine i l other =
      let first = checked-holds (second_good trace i) (Second (i + 1)) _ (sym (said-is i l) ∙ f.others i l other) in
      let second = checked-holds (may i) (Marked (i + 1)) _ first.1 in
      record { good = first.0; unmarked = second.0; free = (checked-holds (clear i) (TooClose (i + 1)) (Ok tt) second.1).0 }

  -- a search that finds k, and one that finds nothing
  found : {A : Type 0} (test : ℕ → Bool) (out done : ℕ → A) → ((i : ℕ) → i < n → (i ≡ k → ⊥) → test i ≡ true) → test k ≡ false → scan test out done 0 n ≡ out k
  found test out done each bad = scan-first test out done n k f.within (λ i l. each i (omega (arith, f.within)) (λ e. omega arith)) bad

  none : {A : Type 0} (test : ℕ → Bool) (out done : ℕ → A) → ((i : ℕ) → i < n → (i ≡ k → ⊥) → test i ≡ true) → test k ≡ true → scan test out done 0 n ≡ done n
  none test out done each good =
      let whole : 0 + n ≡ n = omega arith in
      scan_good out done test 0 n (λ i l. all i (omega arith) (dec_lt i k) (dec_lt k i)) ∙ ap done whole
    where
      all : (i : ℕ) → i < n → Dec (i < k) → Dec (k < i) → test i ≡ true
      all i l (yes below) other = each i l (λ e. omega arith)
      all i l (no above) (yes past) = each i l (λ e. omega arith)
      all i l (no above) (no past) =
          let same : i ≡ k = omega arith in
          ap test same ∙ good

  -- a second that 4 takes is slow enough for the tenths
  clear-is : (i : ℕ) → second_good trace i ≡ true → not (own_at (shift_of v) trace i).close ≡ clear i
  clear-is i good = ap (λ (o : Own). not o.close) (sym (good-by-tenths sound (version_of trace) (flags_at trace i) (speed_at trace i) (zero_at trace i) good))

  -- ---- the gear sheet
  read-to : (j : Judged) → judge_seconds trace 0 n ≡ j → judge_trace trace ≡ j
  unfolding judge_trace
  read-to j e = rw (f.headed, f.counted, eq-eqb (length trace) (8 + 4 * n) f.long) e

  answer-of : (a b c : Judged) → judge_trace trace ≡ a → marks_by v trace n ≡ b → judge_close (shift_of v) trace 0 n ≡ c
      → gear_answer trace v room start ≡ and_then (and_then a (and_then (Ok tt) (and_then b (Ok tt)))) c
  unfolding gear_answer judge_sheet
  answer-of a b c first second third = (λ i. and_then (and_then (first i) (and_then (f.taken i) (and_then (second i) (f.fits i)))) (third i))

  marks-found : may k ≡ false → marks_by v trace n ≡ Err (Marked (k + 1))
  marks-found bad = go (eqb v.rules 2) refl
    where
      go : (b : Bool) → eqb v.rules 2 ≡ b → cond b (judge_marks trace 0 n) (Ok tt) ≡ Err (Marked (k + 1))
      go true e =
          found (λ i. not (marked_at trace i)) (λ i. Err (Marked (i + 1))) (λ i. Ok tt)
          (λ i l other. ap (λ (b : Bool). not (b && marked_at trace i)) (sym e) ∙ (fine i l other).unmarked)
          (ap (λ (b : Bool). not (b && marked_at trace k)) (sym e) ∙ bad)
      go false e = absurd (false≢true (sym bad ∙ ap (λ (b : Bool). not (b && marked_at trace k)) e))

  marks-none : may k ≡ true → marks_by v trace n ≡ Ok tt
  marks-none good = go (eqb v.rules 2) refl
    where
      go : (b : Bool) → eqb v.rules 2 ≡ b → cond b (judge_marks trace 0 n) (Ok tt) ≡ Ok tt
      go true e =
          none (λ i. not (marked_at trace i)) (λ i. Err (Marked (i + 1))) (λ i. Ok tt)
          (λ i l other. ap (λ (b : Bool). not (b && marked_at trace i)) (sym e) ∙ (fine i l other).unmarked)
          (ap (λ (b : Bool). not (b && marked_at trace k)) (sym e) ∙ good)
      go false e = refl

  all-good : second_good trace k ≡ true → judge_trace trace ≡ Ok tt
  all-good good = read-to (Ok tt) (none (second_good trace) (λ i. Err (Second (i + 1))) (λ i. Ok tt) (λ i l other. (fine i l other).good) good)

  close_at_lem : clear k ≡ false → second_good trace k ≡ true → judge_close (shift_of v) trace 0 n ≡ Err (TooClose (k + 1))
  close_at_lem bad good =
      found (λ i. not (own_at (shift_of v) trace i).close) (λ i. Err (TooClose (i + 1))) (λ i. Ok tt)
      (λ i l other. let x = fine i l other in clear-is i x.good ∙ x.free) (clear-is k good ∙ bad)

  present-by : (g m c : Bool) → second_good trace k ≡ g → may k ≡ m → clear k ≡ c
      → checked g (Second (k + 1)) (checked m (Marked (k + 1)) (checked c (TooClose (k + 1)) (Ok tt))) ≡ Err refusal → gear_answer trace v room start ≡ Err refusal
  present-by false m c bad second third e =
      answer-of _ _ _ (read-to (Err (Second (k + 1))) (found (second_good trace) (λ i. Err (Second (i + 1))) (λ i. Ok tt) (λ i l other. (fine i l other).good) bad)) refl refl ∙ e
  present-by true false c good bad third e = answer-of _ _ _ (all-good good) (marks-found bad) refl ∙ e
  present-by true true false good fair bad e = answer-of _ _ _ (all-good good) (marks-none fair) (close_at_lem bad good) ∙ e
  present-by true true true good fair free e = absurd (refused-not (sym e))

  -- ---- the live engine
  said-alone : (i : ℕ) → said_of (version_of trace) sound trace i ≡ said_alone trace v i
  unfolding judge_second
  said-alone i =
      ap (λ (received : ℕ). checked (ltb received 2000) Count (checked (second_good trace i) (Second (received + 1)) (checked (may i) (Marked (received + 1)) (checked (clear i) (TooClose (received + 1)) (Ok tt)))))
      (received_is (own (version_of trace) sound trace) trace i)

  began : judge_begin (version_of trace) v ≡ Ok tt
  unfolding judge_begin
  began = rw (headed-readable trace f.headed) f.taken

  run_is : (r : Run) → Fate (version_of trace) sound trace n r → r.judged ≡ Err refusal
  run_is r (runs all) = absurd (refused-not (sym (said-alone k ∙ f.fault) ∙ all k f.within))
  run_is r (ends i other l all e) = go (dec_lt i k) (dec_lt k i)
    where
      go : Dec (i < k) → Dec (k < i) → ◌≡◌ {A = Judged} (Err other) (Err refusal)
      go (yes below) past = absurd (refused-not (sym e ∙ said-alone i ∙ f.others i l (λ z. omega arith)))
      go (no above) (yes past) = absurd (refused-not (sym e ∙ said-alone i ∙ f.others i l (λ z. omega arith)))
      go (no above) (no past) =
          let same : i ≡ k = omega arith in
          sym e ∙ ap (said_of (version_of trace) sound trace) same ∙ said-alone k ∙ f.fault

  pub same-refusal : SameRefusal trace v room start refusal
  same-refusal = record {
    present = present-by (second_good trace k) (may k) (clear k) refl refl refl (sym (said-is k f.within) ∙ f.fault);
    live = ap (λ (s : LiveState). s.outcome) (state-is (version_of trace) v began trace n)
        ∙ ap outcome_of (run_is (run_to (begun (version_of trace) v) trace n) (fate (version_of trace) sound trace n));
  }
