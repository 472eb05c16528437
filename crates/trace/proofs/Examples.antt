-- A house file byte by byte, read and judged by the definitions themselves, and what one wrong byte of it makes. Assumes nothing.
use mathlib.Core.Path.{◌≡◌, refl}
use mathlib.Core.Bool.{true, false}
use mathlib.Core.List.{List, [], ◌∷◌, ◌++◌}
use Prim.Native.Nat.{ℕ}
use denote.Ref.{Bor}
use lib.ListN.{set, take}
use Rattle.std.specs.Prelude.{Ok, Err}
use Rattle.refusal.specs.Judging.{Judged}
use Rattle.refusal.specs.declared.Refusal.TheVariants.{Header, Count, Length, Second, PairCounts, Marked}
use Rattle.house.specs.House.{count_of, speed_at, flags_at, stop, acceleration, no_shift, no_first}
use Rattle.trace.specs.Choice.{view, chosen_view}
use Rattle.trace.specs.Judging.{countable, judge_trace, judge_pair, judge_marks}

-- 'W' 'T' 'R' 0, version 1, two seconds: a stop at 2.3 km/h, and 30.0 km/h in acceleration with both marks
abbrev file : List ℕ
file = 87 ∷ 84 ∷ 82 ∷ 0 ∷ 1 ∷ 0 ∷ 2 ∷ 0 ∷ 23 ∷ 0 ∷ 0 ∷ 0 ∷ 44 ∷ 1 ∷ 13 ∷ 0 ∷ []

accepted : judge_trace file ≡ Ok tt
unfolding judge_trace
accepted = refl

first-second : (count_of file ≡ 2) × (speed_at file 0 ≡ 23) × (stop (flags_at file 0) ≡ true)
first-second = (refl, refl, refl)

last-second : (speed_at file 1 ≡ 300) × (acceleration (flags_at file 1) ≡ true) × (no_shift (flags_at file 1) ≡ true) × (no_first (flags_at file 1) ≡ true)
last-second = (refl, refl, refl, refl)

-- ---- the same with one byte changed
abbrev changed : ℕ → ℕ → Judged
changed place byte = judge_trace (set file place byte)

-- 1: the mark, the zero byte, the version
wrong-head : (changed 2 84 ≡ Err Header) × (changed 3 1 ≡ Err Header) × (changed 4 3 ≡ Err Header) × (changed 5 1 ≡ Err Header)
unfolding judge_trace
wrong-head = (refl, refl, refl, refl)

-- 2: none; 3: one more than there are
wrong-count : (changed 6 0 ≡ Err Count) × (changed 6 3 ≡ Err Length)
unfolding judge_trace
wrong-count = (refl, refl)

-- 4: 2,048 + 44 is above 200.0 km/h; bit 4; the fourth byte
wrong_second : (changed 13 8 ≡ Err (Second 2)) × (changed 14 16 ≡ Err (Second 2)) × (changed 11 1 ≡ Err (Second 1))
unfolding judge_trace
wrong_second = (refl, refl, refl)

-- version 2 (02, M-109): the last second's marks are wrong there, and the phase alone is not
second-version : (changed 4 2 ≡ Err (Second 2)) × (judge_trace (set (set file 4 2) 14 4) ≡ Err (Second 2)) × (judge_trace (set (set file 4 2) 14 3) ≡ Ok tt)
unfolding judge_trace
second-version = (refl, refl, refl)

-- 20 (02, M-109): the first second with a mark, on a stop second too; none in version 2
marks : (judge_marks file 0 2 ≡ Err (Marked 2)) × (judge_marks (set file 10 8) 0 2 ≡ Err (Marked 1)) × (judge_marks (set file 14 1) 0 2 ≡ Ok tt)
    × (judge_marks (set file 4 2) 0 2 ≡ Ok tt)
marks = (refl, refl, refl, refl)

-- 200.0 km/h is 208 + 7 x 256
fastest : (judge_trace (set (set file 12 208) 13 7) ≡ Ok tt) × (judge_trace (set (set file 12 209) 13 7) ≡ Err (Second 2))
unfolding judge_trace
fastest = (refl, refl)

-- 1 and 3: seven bytes; a byte too many
wrong-length : (judge_trace (take 7 file) ≡ Err Header) × (judge_trace (file ++ (0 ∷ [])) ≡ Err Length)
unfolding judge_trace
wrong-length = (refl, refl)

-- 2: from 1 to 2,000
counts : (countable 1 ≡ true) × (countable 2000 ≡ true) × (countable 2001 ≡ false)
counts = (refl, refl, refl)

-- ---- a pair
abbrev shorter : List ℕ
shorter = take 12 (set file 6 1)

-- 15: the counts differ, either way
unequal : (judge_pair file file ≡ Ok tt) × (judge_pair file shorter ≡ Err PairCounts) × (judge_pair shorter file ≡ Err PairCounts)
unfolding judge_pair judge_trace
unequal = (refl, refl, refl)

-- each trace is judged before that, the normal one first: here by its second's zero byte, and the reduced one by its head
judged-first : (judge_pair file (set shorter 3 1) ≡ Err Header) × (judge_pair (set file 11 1) (set shorter 3 1) ≡ Err (Second 1))
unfolding judge_pair judge_trace
judged-first = (refl, refl)

-- the switch on names the reduced trace
switched : (normal reduced : Bor (List ℕ)) → (chosen_view (Ok tt) true normal reduced ≡ view reduced) × (chosen_view (Ok tt) false normal reduced ≡ view normal)
switched normal reduced = (refl, refl)
