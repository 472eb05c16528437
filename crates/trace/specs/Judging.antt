-- 01, Refusal numbers, 1 to 4 and 15: one trace judged, and a pair of traces; and 20 (02, M-109).
use Rattle.std.specs.Prelude.{ℕ, ◌+◌, ◌*◌, ◌≤◌, ◌<◌, Bool, not, ◌≡◌, List, length, eqb, Result, Ok, Err}
use Rattle.std.specs.Borrow.{Bor}
use Rattle.refusal.specs.declared.Refusal.TheVariants.{Header, Count, Length, Second, PairCounts, Marked}
use Rattle.refusal.specs.Judging.{Judged, checked, and_then}
use Rattle.refusal.specs.Ranges.{within}
use Rattle.refusal.specs.declared.Refusal.{Refusal}
use Rattle.house.specs.declared.HouseFile.{HouseFile}
use Rattle.walk.specs.Walk.{scan}
use Rattle.house.specs.House.{headed, count_of, speed_at, flags_at, marked_at, second_good}

-- 2: "count not 1 to 2,000"
abbrev pub countable : ℕ → Bool
countable n = within 1 2000 n

-- the first wrong one of the n seconds from k on. Its place counts from 1
abbrev pub judge_seconds : List ℕ → ℕ → ℕ → Judged
judge_seconds trace = scan (second_good trace) (λ k. Err (Second (k + 1))) (λ k. Ok tt)

-- 1 to 3, the lowest number first, of a file that has a head or not; then what is said of its seconds
abbrev pub judge_file : Bool → List ℕ → Judged → Judged
judge_file known file seconds =
    checked known Header (checked (countable (count_of file)) Count (checked (eqb (length file) (8 + 4 * count_of file)) Length seconds))

-- 1 to 4
unfoldable pub judge_trace : List ℕ → Judged
judge_trace trace = judge_file (headed trace) trace (judge_seconds trace 0 (count_of trace))

-- "For a pair of traces, 1 to 4 of the normal, then of the reduced, then 15"
unfoldable pub judge_pair : List ℕ → List ℕ → Judged
judge_pair normal reduced =
    and_then (judge_trace normal)
    (and_then (judge_trace reduced)
    (checked (eqb (count_of normal) (count_of reduced)) PairCounts (Ok tt)))

-- 20: "a marked version 1 trace .., with its first marked second", of the n seconds from k on. Stop seconds have marks like any other
abbrev pub judge_marks : List ℕ → ℕ → ℕ → Judged
judge_marks trace = scan (λ k. not (marked_at trace k)) (λ k. Err (Marked (k + 1))) (λ k. Ok tt)

-- what is handed on of a lent file that was judged so: the file itself with the seconds of its head, or the refusal
abbrev pub Taken : Bor (List ℕ) → Judged → Result HouseFile Refusal → Type 0
Taken file judged (Ok taken) = (judged ≡ Ok tt) × (taken.bytes ≡ file) × (taken.seconds ≡ count_of file.now)
Taken file judged (Err refusal) = judged ≡ Err refusal

-- what an accepted trace tells of its numbers
pub record Sound (trace : List ℕ) : Type 0 where
  pub some : 1 ≤ count_of trace
  pub few : count_of trace ≤ 2000
  pub exact : length trace ≡ 8 + 4 * count_of trace
  pub speeds : (k : ℕ) → k < count_of trace → speed_at trace k ≤ 2000
  pub flags : (k : ℕ) → k < count_of trace → flags_at trace k ≤ 15
