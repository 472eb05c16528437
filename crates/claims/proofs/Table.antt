-- No core that refuses everything, or nothing: what is given is the first line of 01's table that fails, and accepted where none fails. The core's checks,
-- in the order in which it makes them, are the table's lines, and along the table no number falls. Assumes nothing.
use mathlib.Core.Path.{◌≡◌, refl, ap, subst, ◌∙◌}
use mathlib.Core.Logic.{inl, inr}
use mathlib.Core.Bool.{Bool, true, false, not, cond, ◌&&◌, ◌||◌, or-true, false≢true}
use mathlib.Core.List.{List, [], ◌∷◌, ◌++◌, append_assoc, append-nil}
use Prim.Native.Nat.{ℕ, zero, suc, ◌+◌, ◌-◌, ◌*◌, ◌≤◌, ◌<◌}
use native.Mathlib.Omega.{arith}
use lib.Dec.{eqb, leb, ltb}
use lib.IntN.{pos}
use borrow.Author.Tests.{lt-ltb, ltb-true, ltb-false, le-leb, lt-leb, eqb-true, eq-eqb}
use Rattle.arith.specs.Stages.{exactly}
use Rattle.refusal.specs.declared.Gas.TheVariants.{NMHC}
use Rattle.refusal.specs.declared.Refusal.{Refusal}
use Rattle.std.specs.Prelude.{Ok, Err, Result, Some}
use Rattle.emission.specs.declared.TestResult.{TestResult}
use Rattle.sides.specs.declared.TestSides.{TestSides}
use Rattle.refusal.specs.Ranges.{within}
use Rattle.refusal.specs.Judging.{checked, Check, judged_by}
use Rattle.refusal.proofs.Ranges.{range, both as apart}
use Rattle.vehicle.specs.declared.VehicleSheet.{VehicleSheet}
use Rattle.house.specs.House.{count_of}
use Rattle.trace.specs.Judging.{judge_pair}
use Rattle.gear.specs.Sheet.{gear_answer}
use Rattle.stage.specs.Part.{humidity_good}
use Rattle.reading.specs.declared.Message.{Message}
use Rattle.reading.specs.Units.{units_of, is_fitted, cutter_units}
use Rattle.bag.specs.declared.Part.{Part}
use Rattle.bag.specs.declared.BagSheet.{BagSheet}
use Rattle.bag.specs.Sheet.{test_checks, value_checks, sheet_checks}
use Rattle.cutter.specs.NonMethane.{cutter_of, cutter_good}
use Rattle.sides.specs.ReadIn.{is_usable, reading_checks, read_in, message_checks}
use Rattle.late.specs.Late.{late_checks}
use Rattle.emission.specs.Test.{test_answer}
use Rattle.outcome.specs.declared.Outcome.{Outcome}
use Rattle.outcome.specs.Outcome.{outcome_of}
use Rattle.crossing.specs.Sheet.{with_nothing, result_out}
use Rattle.claims.specs.Table.{Line, outcome, plain, placed, lines, accepted, first_of, AllHold, FirstFails, Exactly, turn, not_after, rising}
use Rattle.claims.specs.Table.{ratio_line, fall_line, geared, mark_line, close_line, trace_table, pair_table, gear_table, readable, fitted, efficiency, emission_table}
use Rattle.claims.proofs.Checks.{check, each, pair_checks, pair-judged, gear_checks, gear-judged, judged_answer, emission_checks, emission-judged}

-- ---- a list of lines
-- every line has a number, so that what it gives is no zeros
abbrev Numbered : List Line → Type 0
Numbered [] = Unit {0}
Numbered (l ∷ ls) = (1 ≤ l.gives.number) × Numbered ls

refused-first : (ls : List Line) (e : Outcome) → 1 ≤ e.number → first_of ls ≡ e → FirstFails ls e
refused-first [] e some is = absurd (let none : 0 ≡ e.number = ap (λ (o : Outcome). o.number) is in let z : ⊥ = omega arith in z)
refused-first (l ∷ ls) e some is = go l.holds refl is (refused-first ls e some)
  where
    go : (b : Bool) → l.holds ≡ b → cond b (first_of ls) l.gives ≡ e → (first_of ls ≡ e → FirstFails ls e) → FirstFails (l ∷ ls) e
    go true h is later = inr (h, later is)
    go false h is later = inl (h, is)

first-refused : (ls : List Line) (e : Outcome) → FirstFails ls e → first_of ls ≡ e
first-refused [] e f = absurd f
first-refused (l ∷ ls) e (inl f) = ap (λ (b : Bool). cond b (first_of ls) l.gives) f.0 ∙ f.1
first-refused (l ∷ ls) e (inr f) = ap (λ (b : Bool). cond b (first_of ls) l.gives) f.0 ∙ first-refused ls e f.1

accepted-all : (ls : List Line) → Numbered ls → (first_of ls).number ≡ 0 → AllHold ls
accepted-all [] some is = tt
accepted-all (l ∷ ls) some is = go l.holds refl is (accepted-all ls some.1)
  where
    go : (b : Bool) → l.holds ≡ b → (cond b (first_of ls) l.gives).number ≡ 0 → ((first_of ls).number ≡ 0 → AllHold ls) → AllHold (l ∷ ls)
    go true h is later = (h, later is)
    go false h is later = absurd (let z : ⊥ = omega (arith, some.0) in z)

all-accepted : (ls : List Line) → AllHold ls → first_of ls ≡ accepted
all-accepted [] h = refl
all-accepted (l ∷ ls) h = ap (λ (b : Bool). cond b (first_of ls) l.gives) h.0 ∙ all-accepted ls h.1

pub decides : (ls : List Line) → Numbered ls → Exactly (first_of ls) ls
decides ls some =
    record {
      refused = refused-first ls;
      refuses = first-refused ls;
      accepted = accepted-all ls some;
      accepts = λ h. ap (λ (o : Outcome). o.number) (all-accepted ls h);
    }

-- ---- the core's checks as lines
abbrev line_of : Check → Line
line_of c = record { holds = c.holds; gives = outcome_of (Err c.refusal) }

abbrev pub lines_of : List Check → List Line
lines_of [] = []
lines_of (c ∷ cs) = line_of c ∷ lines_of cs

-- what a list of checks says, as it is given out
pub given-first : (cs : List Check) → outcome_of (judged_by cs) ≡ first_of (lines_of cs)
given-first [] = refl
given-first (c ∷ cs) = go c.holds (given-first cs)
  where
    go : (b : Bool) → outcome_of (judged_by cs) ≡ first_of (lines_of cs)
        → outcome_of (checked b c.refusal (judged_by cs)) ≡ cond b (first_of (lines_of cs)) (outcome_of (Err c.refusal))
    go true later = later
    go false later = refl

pub lines-append : (cs ds : List Check) → lines_of (cs ++ ds) ≡ lines_of cs ++ lines_of ds
lines-append [] ds = refl
lines-append (c ∷ cs) ds = ap (λ (ls : List Line). line_of c ∷ ls) (lines-append cs ds)

pub lines-each : (good : ℕ → Bool) (refusal : ℕ → Refusal) (k n : ℕ)
    → lines_of (each good refusal k n) ≡ lines (λ i. line_of (check (good i) (refusal i))) k n
lines-each good refusal k zero = refl
lines-each good refusal k (suc n) = ap (λ (ls : List Line). line_of (check (good k) (refusal k)) ∷ ls) (lines-each good refusal (k + 1) n)

pub lines-where : (b : Bool) (cs : List Check) → lines_of (cond b cs []) ≡ cond b (lines_of cs) []
lines-where true cs = refl
lines-where false cs = refl

-- ---- in order
both : {a b : Bool} → a ≡ true → b ≡ true → (a && b) ≡ true
both p q = rw (p, q)

-- a place of the same number further on
pub further : (number a b : ℕ) → suc a ≤ b → not_after (outcome number a 0 0) (outcome number b 0 0) ≡ true
further number a b h = rw (eq-eqb (turn number) (turn number) refl, lt-ltb a b h) (or-true (ltb (turn number) (turn number)))

-- places that count on, and what comes after them
pub rising-lines : (good : ℕ → Bool) (number d k n : ℕ) (last : Outcome) (rest : List Line)
    → not_after last (outcome number (k + d) 0 0) ≡ true → rising last rest ≡ true → ((a : ℕ) → a < k + n + d → rising (outcome number a 0 0) rest ≡ true)
    → rising last (lines (λ i. placed number (i + d) (good i)) k n ++ rest) ≡ true
rising-lines good number d k zero last rest first now later = now
rising-lines good number d k (suc n) last rest first now later =
    both first
    (rising-lines good number d (k + 1) n (outcome number (k + d) 0 0) rest (further number (k + d) (k + 1 + d) (omega arith)) (later (k + d) (omega arith))
    (λ a l. later a (omega arith)))

-- and where nothing comes after them
rising-last : (good : ℕ → Bool) (number d n : ℕ) (last : Outcome) → not_after last (outcome number (0 + d) 0 0) ≡ true
    → rising last (lines (λ i. placed number (i + d) (good i)) 0 n) ≡ true
rising-last good number d n last first =
    subst (λ (ls : List Line). rising last ls ≡ true) (append-nil (lines (λ i. placed number (i + d) (good i)) 0 n))
    (rising-lines good number d 0 n last [] first refl (λ a l. refl))

-- numbers that do not fall begin at 1, and so every line has one
number-kept : (e f : Outcome) → 1 ≤ e.number → not_after e f ≡ true → 1 ≤ f.number
number-kept e f some is = go (ltb (turn e.number) (turn f.number)) refl (eqb (turn e.number) (turn f.number)) refl _ is
  where
    -- every number from 1 on has a turn, and 0 has none
    has-turn : (number : ℕ) → 1 ≤ number → 1 ≤ turn number
    has-turn number some = either (eqb number 20) (omega arith) (omega arith)
      where
        either : (b : Bool) {n m : ℕ} → 1 ≤ n → 1 ≤ m → 1 ≤ cond b n m
        either true p q = p
        either false p q = q

    of-turn : (number : ℕ) → 1 ≤ turn number → 1 ≤ number
    of-turn zero h = absurd (omega arith)
    of-turn (suc number) h = omega arith

    go : (a : Bool) → ltb (turn e.number) (turn f.number) ≡ a → (b : Bool) → eqb (turn e.number) (turn f.number) ≡ b → (c : Bool) → (a || b && c) ≡ true → 1 ≤ f.number
    go true less b same c is = let l = ltb-true (turn e.number) (turn f.number) less in of-turn f.number (omega (arith, l))
    go false less true same c is = let l = eqb-true (turn e.number) (turn f.number) same in of-turn f.number (omega (arith, l, has-turn e.number some))
    go false less false same c is = absurd (false≢true is)

pub rising-numbered : (last : Outcome) (ls : List Line) → 1 ≤ last.number → rising last ls ≡ true → Numbered ls
rising-numbered last [] some is = tt
rising-numbered last (l ∷ ls) some is =
    let two = apart (not_after last l.gives) (rising l.gives ls) is in
    let here = number-kept last l.gives some two.0 in
    (here, rising-numbered l.gives ls here two.1)

numbered-append : (ls ms : List Line) → Numbered ls → Numbered ms → Numbered (ls ++ ms)
numbered-append [] ms p q = q
numbered-append (l ∷ ls) ms p q = (p.0, numbered-append ls ms p.1 q)

-- ---- a pair of traces
pub trace-rising : (trace : List ℕ) → rising (outcome 1 0 0 0) (trace_table trace) ≡ true
trace-rising trace = rising-last _ 4 1 (count_of trace) (outcome 3 0 0 0) refl

pair-lines : (normal reduced : List ℕ) → lines_of (pair_checks normal reduced) ≡ pair_table normal reduced
pair-lines normal reduced = simp (lines-append, lines-each)

pub pair-table : (normal reduced : List ℕ) → outcome_of (judge_pair normal reduced) ≡ first_of (pair_table normal reduced)
pair-table normal reduced =
    ap outcome_of (pair-judged normal reduced) ∙ given-first (pair_checks normal reduced) ∙ ap first_of (pair-lines normal reduced)

pub pair-exactly : (normal reduced : List ℕ) → Exactly (outcome_of (judge_pair normal reduced)) (pair_table normal reduced)
pair-exactly normal reduced =
    let last = numbered-append (trace_table reduced) (plain 15 (eqb (count_of normal) (count_of reduced)) ∷ []) (alone reduced) (omega arith, tt) in
    rw pair-table (decides (pair_table normal reduced) (numbered-append (trace_table normal) _ (alone normal) last))
  where
    alone : (trace : List ℕ) → Numbered (trace_table trace)
    alone trace = rising-numbered (outcome 1 0 0 0) (trace_table trace) (omega arith) (trace-rising trace)

-- ---- the gear sheet
module _ (trace : List ℕ) (v : VehicleSheet) (room start : ℕ) where
  abbrev ratios : List Line
  ratios = lines (ratio_line v.ndv) 0 v.gears

  abbrev falls : List Line
  falls = lines (fall_line v.ndv) 0 (v.gears - 1)

  abbrev set : Line
  set = placed 5 14 (within 1 2 v.rules)

  -- 7, and 20, 8 and 9 behind it
  abbrev seven : Line
  seven = plain 7 (leb (19 * v.power) (150 * (v.mass + 75)))

  abbrev room_and_close : List Line
  room_and_close = plain 8 (leb start room && leb (2 * count_of trace) (room - start)) ∷ lines (close_line v trace) 0 (count_of trace)

  abbrev behind : List Line
  behind = lines (mark_line v trace) 0 (count_of trace) ++ room_and_close

  room-rising : rising (outcome 8 0 0 0) (lines (close_line v trace) 0 (count_of trace)) ≡ true
  room-rising = rising-last _ 9 1 (count_of trace) (outcome 8 0 0 0) refl

  behind-rising : (a : ℕ) → rising (outcome 6 a 0 0) (seven ∷ behind) ≡ true
  behind-rising a = rising-lines _ 20 1 0 (count_of trace) (outcome 7 0 0 0) room_and_close refl room-rising (λ a l. room-rising)

  -- with the gears, where there are 3 to 8 of them, and without
  set-rising : (geared : Bool) (a : ℕ) → a < 14 → rising (outcome 5 a 0 0) (set ∷ (cond geared falls [] ++ (seven ∷ behind))) ≡ true
  set-rising true a l =
      both (further 5 a 14 l) (rising-lines _ 6 2 0 (v.gears - 1) (outcome 5 14 0 0) (seven ∷ behind) refl (behind-rising 0) (λ b k. behind-rising b))
  set-rising false a l = both (further 5 a 14 l) (behind-rising 0)

  pub ratios-rising : rising (outcome 5 5 0 0) ((geared v ratios ++ (set ∷ (geared v falls ++ (seven ∷ [])))) ++ behind) ≡ true
  ratios-rising = simp append_assoc (go (within 3 8 v.gears) refl)
    where
      go : (geared : Bool) → within 3 8 v.gears ≡ geared → rising (outcome 5 5 0 0) (cond geared ratios [] ++ (set ∷ (cond geared falls [] ++ (seven ∷ behind)))) ≡ true
      go true e =
          let few = (range 3 8 v.gears e).1 in
          rising-lines _ 5 6 0 v.gears (outcome 5 5 0 0) _ refl (set-rising true 5 (omega arith)) (λ a l. set-rising true a (omega arith))
      go false e = set-rising false 5 (omega arith)

  pub gear-rising : rising (outcome 1 0 0 0) (gear_table trace v room start) ≡ true
  gear-rising = rising-lines _ 4 1 0 (count_of trace) (outcome 3 0 0 0) _ refl ratios-rising (λ a l. ratios-rising)

  gear-lines : lines_of (gear_checks trace v room start) ≡ gear_table trace v room start
  gear-lines = simp (lines-append, lines-each, lines-where)

  pub gear-table : outcome_of (gear_answer trace v room start) ≡ first_of (gear_table trace v room start)
  gear-table =
      ap outcome_of (gear-judged trace v room start) ∙ given-first (gear_checks trace v room start) ∙ ap first_of gear-lines

  pub gear-exactly : Exactly (outcome_of (gear_answer trace v room start)) (gear_table trace v room start)
  gear-exactly =
      rw gear-table
      (decides (gear_table trace v room start) (rising-numbered (outcome 1 0 0 0) (gear_table trace v room start) (omega arith) gear-rising))

-- ---- the emission sheet
-- of the cutter's reading "not fitted" is no fault
cutter-readable : (sent : Message) → is_usable (cutter_units sent) ≡ readable NMHC sent
unfolding cutter_units
cutter-readable sent = go (is_fitted sent)
  where
    go : (fitted : Bool) → is_usable (cond fitted (units_of sent) (Some (exactly (pos 0)))) ≡ (not fitted || is_usable (units_of sent))
    go true = refl
    go false = refl

not-under : (a b : ℕ) → leb a b ≡ not (ltb b a)
not-under a b = go (ltb b a) refl
  where
    go : (t : Bool) → ltb b a ≡ t → leb a b ≡ not t
    go true e = lt-leb a b (ltb-true b a e)
    go false e = le-leb a b (ltb-false b a e)

-- 19, as the core judges it
efficiency-good : (s : BagSheet) → cutter_good (cutter_of s) ≡ (efficiency s).holds
unfolding cutter_of
efficiency-good s =
    rw (not-under (s.efficiencies.methane + 500) s.efficiencies.ethane)
    (go (fitted s.first) (fitted s.second) (eqb s.class 3) (fitted s.third) _)
  where
    go : (first second three third under : Bool) →
        (not ((first && second) && (not three || third)) || not under) ≡ not ((first && (second && cond three third true)) && under)
    go true true true true under = refl
    go true true true false under = refl
    go true true false third under = refl
    go true false three third under = refl
    go false second three third under = refl

module _ (s : BagSheet) where
  emission-lines : lines_of (emission_checks s) ≡ emission_table s
  unfolding sheet_checks test_checks value_checks message_checks reading_checks late_checks humidity_good
  emission-lines = go (eqb s.class 3) refl (read_in s) refl
    where
      cutter : (p : Part) → (is_usable (cutter_units p.bag.cutter) ≡ readable NMHC p.bag.cutter) × (is_usable (cutter_units p.air.cutter) ≡ readable NMHC p.air.cutter)
      cutter p = (cutter-readable p.bag.cutter, cutter-readable p.air.cutter)

      go : (b : Bool) → eqb s.class 3 ≡ b → (x : (Result TestSides Refusal)) → read_in s ≡ x → lines_of (emission_checks s) ≡ emission_table s
      go true class (Ok r) was = rw (was, efficiency-good s, (cutter s.first).0, (cutter s.first).1, (cutter s.second).0, (cutter s.second).1, (cutter s.third).0, (cutter s.third).1, class)
      go true class (Err refusal) was = rw (was, (cutter s.first).0, (cutter s.first).1, (cutter s.second).0, (cutter s.second).1, (cutter s.third).0, (cutter s.third).1, class)
      go false class (Ok r) was = rw (was, efficiency-good s, (cutter s.first).0, (cutter s.first).1, (cutter s.second).0, (cutter s.second).1, class)
      go false class (Err refusal) was = rw (was, (cutter s.first).0, (cutter s.first).1, (cutter s.second).0, (cutter s.second).1, class)

  pub emission-rising : rising (outcome 10 0 0 0) (emission_table s) ≡ true
  emission-rising = go (eqb s.class 3) refl (read_in s) refl
    where
      go : (b : Bool) → eqb s.class 3 ≡ b → (x : (Result TestSides Refusal)) → read_in s ≡ x → rising (outcome 10 0 0 0) (emission_table s) ≡ true
      go true class (Ok r) was = rw (was, class)
      go true class (Err refusal) was = rw (was, class)
      go false class (Ok r) was = rw (was, class)
      go false class (Err refusal) was = rw (was, class)

  -- what stands beside the figures is the answer judged
  given_out : (a : (Result TestResult Refusal)) → (result_out a).outcome ≡ outcome_of (judged_answer a)
  unfolding with_nothing
  given_out (Ok result) = refl
  given_out (Err refusal) = refl

  pub emission-table : (result_out (test_answer s)).outcome ≡ first_of (emission_table s)
  emission-table =
      given_out (test_answer s) ∙ ap outcome_of (emission-judged s) ∙ given-first (emission_checks s) ∙ ap first_of emission-lines

  pub emission-exactly : Exactly (result_out (test_answer s)).outcome (emission_table s)
  emission-exactly =
      rw emission-table (decides (emission_table s) (rising-numbered (outcome 10 0 0 0) (emission_table s) (omega arith) emission-rising))
