-- Each answer as a list of checks, in the order in which the core makes them: the first that fails names the refusal. Assumes nothing.
use mathlib.Core.Path.{◌≡◌, refl, sym, ap, ◌∙◌}
use mathlib.Core.Bool.{Bool, true, false, not, cond, ◌&&◌}
use mathlib.Core.List.{List, [], ◌∷◌, ◌++◌, append_assoc}
use Prim.Native.Nat.{ℕ, zero, suc, ◌+◌, ◌-◌, ◌*◌}
use lib.ListN.{length}
use lib.Dec.{eqb, leb}
use Rattle.refusal.specs.declared.Refusal.{Refusal}
use Rattle.refusal.specs.declared.Refusal.TheVariants.{Header, Count, Length, Second, PowerToMass, Room, TooClose, PairCounts, Marked}
use Rattle.std.specs.Prelude.{Ok, Err, Result}
use Rattle.refusal.specs.Judging.{Judged, checked, Check, checked_all, judged_by, and_then}
use Rattle.emission.specs.declared.TestResult.{TestResult}
use Rattle.sides.specs.declared.TestSides.{TestSides}
use Rattle.refusal.specs.Ranges.{within}
use Rattle.refusal.proofs.Judging.{checked_all-append, checked_all-then}
use Rattle.walk.specs.Walk.{scan}
use Rattle.walk.proofs.Same.{scan_good}
use Rattle.vehicle.specs.declared.VehicleSheet.{VehicleSheet}
use Rattle.house.specs.House.{headed, count_of, marked_at}
use Rattle.trace.specs.Judging.{countable, judge_file, judge_trace, judge_pair, judge_marks}
use Rattle.house.specs.House.{second_good}
use Rattle.vehicle.specs.Sheet.{engine_checks, gear_good, gear_refusal, rule_checks, mild, judge_vehicle}
use Rattle.shift.specs.Speeds.{shift_of}
use Rattle.own.specs.Own.{own_at}
use Rattle.gear.specs.Sheet as gears
use Rattle.gear.specs.Sheet.{gear_answer}
use Rattle.bag.specs.declared.BagSheet.{BagSheet}
use Rattle.bag.specs.Sheet.{sheet_checks, of_third, judge_sheet}
use Rattle.bag.specs.declared.Part.{Part}
use Rattle.cutter.specs.NonMethane.{cutter_of}
use Rattle.sides.specs.declared.Sides.{Sides}
use Rattle.sides.specs.Gases.{nothing}
use Rattle.sides.specs.ReadIn.{read_part, judged_part, reading_checks, read_third, on_part, read_in, message_checks}
use Rattle.sides.proofs.Readings.{part-judged}
use Rattle.late.specs.Late.{late_checks, judge_late}
use Rattle.emission.specs.Test.{on_read, hand_up, read_answer, test_answer}

-- ---- stages and searches as lists of checks
abbrev pub check : Bool → Refusal → Check
check holds refusal = record { holds = holds; refusal = refusal }

-- one check for each of n places from k on
abbrev pub each : (ℕ → Bool) → (ℕ → Refusal) → ℕ → ℕ → List Check
each holds refusal k zero = []
each holds refusal k (suc n) = check (holds k) (refusal k) ∷ each holds refusal (k + 1) n

pub then-list : (cs ds : List Check) → and_then (judged_by cs) (judged_by ds) ≡ judged_by (cs ++ ds)
then-list cs ds = sym (checked_all-append cs ds (Ok tt) ∙ checked_all-then cs (judged_by ds))

scan-each : (good : ℕ → Bool) (refusal : ℕ → Refusal) (k n : ℕ)
    → scan good (λ i. Err (refusal i)) (λ i. Ok tt) k n ≡ judged_by (each good refusal k n)
scan-each good refusal k zero = refl
scan-each good refusal k (suc n) =
    ap (λ (j : Judged). cond (good k) j (Err (refusal k))) (scan-each good refusal (k + 1) n) ∙ by (good k) (refusal k) _
  where
    by : (b : Bool) (r : Refusal) (rest : Judged) → cond b rest (Err r) ≡ checked b r rest
    by true r rest = refl
    by false r rest = refl

-- ---- a file, 1 to 4: by whether it has a head and which seconds are good
abbrev heads : Bool → List ℕ → List Check
heads known file =
    check known Header
    ∷ check (countable (count_of file)) Count
    ∷ check (eqb (length file) (8 + 4 * count_of file)) Length
    ∷ []

abbrev pub file_checks : Bool → (ℕ → Bool) → List ℕ → List Check
file_checks known good file = heads known file ++ each good (λ k. Second (k + 1)) 0 (count_of file)

pub file-judged : (known : Bool) (good : ℕ → Bool) (file : List ℕ)
    → judge_file known file (scan good (λ k. Err (Second (k + 1))) (λ k. Ok tt) 0 (count_of file)) ≡ judged_by (file_checks known good file)
file-judged known good file =
    ap (checked_all (heads known file)) (scan-each good (λ k. Second (k + 1)) 0 (count_of file))
    ∙ sym (checked_all-append (heads known file) (each good (λ k. Second (k + 1)) 0 (count_of file)) (Ok tt))

-- ---- a trace, and a pair
abbrev pub trace_checks : List ℕ → List Check
trace_checks trace = file_checks (headed trace) (second_good trace) trace

pub trace-judged : (trace : List ℕ) → judge_trace trace ≡ judged_by (trace_checks trace)
unfolding judge_trace
trace-judged trace = file-judged (headed trace) (second_good trace) trace

abbrev pub pair_checks : List ℕ → List ℕ → List Check
pair_checks normal reduced = trace_checks normal ++ (trace_checks reduced ++ (check (eqb (count_of normal) (count_of reduced)) PairCounts ∷ []))

pub pair-judged : (normal reduced : List ℕ) → judge_pair normal reduced ≡ judged_by (pair_checks normal reduced)
unfolding judge_pair
pair-judged normal reduced =
    let last = check (eqb (count_of normal) (count_of reduced)) PairCounts ∷ [] in
    (λ i. and_then (trace-judged normal i) (and_then (trace-judged reduced i) (judged_by last)))
    ∙ ap (and_then (judged_by (trace_checks normal))) (then-list (trace_checks reduced) last)
    ∙ then-list (trace_checks normal) (trace_checks reduced ++ last)

-- ---- a vehicle sheet, 5 to 7: the gears are judged where there are 3 to 8 of them
abbrev judged_gears : Bool → VehicleSheet → ℕ → List Check
judged_gears falling v n = each (gear_good falling v.ndv) (gear_refusal falling) 0 n

abbrev checks_by : Bool → VehicleSheet → List Check
checks_by geared v =
    engine_checks v
    ++ (cond geared (judged_gears false v v.gears) []
    ++ (rule_checks v ++ (cond geared (judged_gears true v (v.gears - 1)) [] ++ (check (mild v) PowerToMass ∷ []))))

abbrev pub vehicle_checks : VehicleSheet → List Check
vehicle_checks v = checks_by (within 3 8 v.gears) v

pub vehicle-judged : (v : VehicleSheet) → judge_vehicle v ≡ judged_by (vehicle_checks v)
unfolding judge_vehicle
vehicle-judged v = go (within 3 8 v.gears) refl
  where
    go : (geared : Bool) → within 3 8 v.gears ≡ geared → judge_vehicle v ≡ judged_by (checks_by geared v)
    go true e =
        let ratios = scan-each (gear_good false v.ndv) (gear_refusal false) 0 v.gears in
        let falls = scan-each (gear_good true v.ndv) (gear_refusal true) 0 (v.gears - 1) in
        let last = check (mild v) PowerToMass ∷ [] in
        (λ i. and_then (judged_by (engine_checks v)) (and_then (ratios i) (and_then (judged_by (rule_checks v)) (and_then (falls i) (judged_by last)))))
        ∙ simp then-list
    -- place 5 fails, or one before it, whatever follows
    go false e =
        let ended : (x y : Judged) → checked_all (engine_checks v) x ≡ checked_all (engine_checks v) y = λ x y. rw e in
        sym (checked_all-then (engine_checks v) _) ∙ ended _ _ ∙ sym (checked_all-append (engine_checks v) (rule_checks v ++ (check (mild v) PowerToMass ∷ [])) (Ok tt))

-- ---- the gear sheet: 1 to 7, 20, 8 and 9
abbrev unmarked : VehicleSheet → List ℕ → ℕ → Bool
unmarked v trace k = not (eqb v.rules 2 && marked_at trace k)

marks-judged : (v : VehicleSheet) (trace : List ℕ) (n : ℕ) → gears.marks_by v trace n ≡ judged_by (each (unmarked v trace) (λ k. Marked (k + 1)) 0 n)
marks-judged v trace n = go (eqb v.rules 2) ∙ scan-each (unmarked v trace) (λ k. Marked (k + 1)) 0 n
  where
    go : (b : Bool) → cond b (judge_marks trace 0 n) (Ok tt) ≡ scan (λ k. not (b && marked_at trace k)) (λ k. Err (Marked (k + 1))) (λ k. Ok tt) 0 n
    go true = refl
    go false = sym (scan_good (λ k. Err (Marked (k + 1))) (λ k. Ok tt) (λ k. true) 0 n (λ j l. refl))

abbrev pub gear_checks : List ℕ → VehicleSheet → ℕ → ℕ → List Check
gear_checks trace v room start =
    trace_checks trace
    ++ (vehicle_checks v
    ++ (each (unmarked v trace) (λ k. Marked (k + 1)) 0 (count_of trace)
    ++ (check (leb start room && leb (2 * count_of trace) (room - start)) Room
    ∷ each (λ k. not (own_at (shift_of v) trace k).close) (λ k. TooClose (k + 1)) 0 (count_of trace))))

flat : (t v m r c : List Check) → and_then (and_then (judged_by t) (and_then (judged_by v) (and_then (judged_by m) (judged_by r)))) (judged_by c)
    ≡ judged_by (t ++ (v ++ (m ++ (r ++ c))))
flat t v m r c = simp (then-list, append_assoc)

pub gear-judged : (trace : List ℕ) (v : VehicleSheet) (room start : ℕ) → gear_answer trace v room start ≡ judged_by (gear_checks trace v room start)
unfolding gear_answer gears.judge_sheet
gear-judged trace v room start =
    let space = check (leb start room && leb (2 * count_of trace) (room - start)) Room ∷ [] in
    let close = scan-each (λ k. not (own_at (shift_of v) trace k).close) (λ k. TooClose (k + 1)) 0 (count_of trace) in
    (λ i. and_then (and_then (trace-judged trace i) (and_then (vehicle-judged v i) (and_then (marks-judged v trace (count_of trace) i) (judged_by space)))) (close i))
    ∙ flat (trace_checks trace) (vehicle_checks v) (each (unmarked v trace) (λ k. Marked (k + 1)) 0 (count_of trace)) space _

-- ---- the emission sheet, 10 to 14 and 19
abbrev judged_read : Result TestSides Refusal → Judged
judged_read (Ok readings) = Ok tt
judged_read (Err refusal) = Err refusal

abbrev pub judged_answer : Result TestResult Refusal → Judged
judged_answer (Ok result) = Ok tt
judged_answer (Err refusal) = Err refusal

on-part : (p : (Result Sides Refusal)) (next : Sides → (Result TestSides Refusal)) (rest : Judged) → ((sides : Sides) → judged_read (next sides) ≡ rest)
    → judged_read (on_part p next) ≡ and_then (judged_part p) rest
on-part (Ok sides) next rest h = h sides
on-part (Err refusal) next rest h = refl

third-judged : (class : ℕ) (third : Part) → judged_part (read_third class third) ≡ judged_by (of_third class (reading_checks 3 third))
unfolding read_third
third-judged class third = go (eqb class 3)
  where
    go : (b : Bool) → judged_part (cond b (read_part 3 third) (Ok (record { bag = nothing; air = nothing })))
        ≡ judged_by (cond b (reading_checks 3 third) [])
    go true = part-judged 3 third
    go false = refl

then-nothing : (j : Judged) → and_then j (Ok tt) ≡ j
then-nothing (Ok _) = refl
then-nothing (Err refusal) = refl

read-judged : (s : BagSheet) → judged_read (read_in s) ≡ judged_by (message_checks s)
unfolding read_in message_checks
read-judged s =
    on-part (read_part 1 s.first) _ _
    (λ first. on-part (read_part 2 s.second) _ _ (λ second. on-part (read_third s.class s.third) _ _ (λ third. refl)))
    ∙ simp (then-nothing, part-judged, third-judged, then-list)

hand-judged : (j : Judged) (next : Result TestResult Refusal) → judged_answer (hand_up j next) ≡ and_then j (judged_answer next)
hand-judged (Ok _) next = refl
hand-judged (Err refusal) next = refl

-- 13, 14 and 19 are judged of what was read
abbrev pub late_on : BagSheet → Result TestSides Refusal → List Check
late_on s (Ok readings) = late_checks s (cutter_of s) readings
late_on s (Err refusal) = []

late-judged : (s : BagSheet) (x : Result TestSides Refusal) → judged_answer (on_read x (read_answer s)) ≡ and_then (judged_read x) (judged_by (late_on s x))
unfolding read_answer
late-judged s (Ok readings) = hand-judged (judge_late s (cutter_of s) readings) _ ∙ then-nothing (judge_late s (cutter_of s) readings)
late-judged s (Err refusal) = refl

abbrev pub emission_checks : BagSheet → List Check
emission_checks s = sheet_checks s ++ (message_checks s ++ late_on s (read_in s))

pub emission-judged : (s : BagSheet) → judged_answer (test_answer s) ≡ judged_by (emission_checks s)
unfolding test_answer
emission-judged s = hand-judged (judge_sheet s) _ ∙ simp (late-judged, read-judged, then-list)
