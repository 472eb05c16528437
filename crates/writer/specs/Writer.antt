-- The writer of a trace of version 2 (02, M-109): from seconds into a lent buffer. The seconds are lent in one list of numbers, each its speed in 0.1 km/h and
-- then its phase.
use Rattle.std.specs.Prelude.{ℕ, ◌+◌, ◌*◌, ◌/◌, ◌%◌, ◌≤◌, ◌≡◌, Bool, ◌&&◌, List, ◌++◌, length, get_or, take, drop, eqb, leb, Ok, Err}
use Rattle.refusal.specs.Judging.{Judged, checked, and_then, if_accepted}
use Rattle.refusal.specs.declared.Refusal.TheVariants.{Count, Second, Room}
use Rattle.walk.specs.Walk.{scan}
use Rattle.house.specs.Written.{seconds_to, file_of}
use Rattle.trace.specs.Judging.{countable}

abbrev pub speed_in : List ℕ → ℕ → ℕ
speed_in seconds k = get_or seconds (2 * k) 0

abbrev pub phase_in : List ℕ → ℕ → ℕ
phase_in seconds k = get_or seconds (2 * k + 1) 0

abbrev pub count_in : List ℕ → ℕ
count_in seconds = length seconds / 2

-- 2: "a count not 1 to 2,000". A speed without its phase makes no whole number of seconds
abbrev pub counted : List ℕ → Bool
counted seconds = eqb (length seconds % 2) 0 && countable (count_in seconds)

-- 4: "a speed above 2,000 or a phase above 3"
abbrev pub writable : List ℕ → ℕ → Bool
writable seconds k = leb (speed_in seconds k) 2000 && leb (phase_in seconds k) 3

-- the first of the n seconds from k on that is not. Its place counts from 1
abbrev pub judge_seconds : List ℕ → ℕ → ℕ → Judged
judge_seconds seconds = scan (writable seconds) (λ k. Err (Second (k + 1))) (λ k. Ok tt)

-- 8: "an output too small"
abbrev pub judge_room : ℕ → ℕ → Judged
judge_room n room = checked (leb (8 + 4 * n) room) Room (Ok tt)

unfoldable pub write_answer : List ℕ → ℕ → Judged
write_answer seconds room =
    checked (counted seconds) Count (and_then (judge_seconds seconds 0 (count_in seconds)) (judge_room (count_in seconds) room))

-- what is asked of the seconds and of the room where they are stored
pub record Filling (seconds : List ℕ) (room n : ℕ) : Type 0 where
  pub lent : 2 * n ≤ length seconds
  pub few : n ≤ 2000
  pub fits : 8 + 4 * n ≤ room
  pub taken : judge_seconds seconds 0 n ≡ Ok tt

-- a buffer with the n seconds behind its first 8 bytes
abbrev pub with_seconds : List ℕ → ℕ → List ℕ → List ℕ
with_seconds seconds n buffer = (take 8 buffer ++ seconds_to (speed_in seconds) (phase_in seconds) n) ++ drop (4 * n + 8) buffer

-- the file that is written
abbrev pub written : List ℕ → List ℕ
written seconds = file_of 2 (speed_in seconds) (phase_in seconds) (count_in seconds)

-- the buffer at the end: the file at its front, and the bytes behind it as they were; on a refusal all of it
unfoldable pub write_buffer : List ℕ → List ℕ → List ℕ
write_buffer seconds buffer =
    if_accepted (write_answer seconds (length buffer)) (written seconds ++ drop (8 + 4 * count_in seconds) buffer) buffer
