-- Drafts of traces (02, M-112), "in which a second's phase may be missing, and nothing else may": judged, mended and turned. Seconds count from 0 here, and from 1 in the
-- lists.
use Rattle.std.specs.Prelude.{Bool, true, false, cond, not, ◌&&◌, List, [], ◌∷◌, ◌++◌, ℕ, zero, suc, ◌+◌, ◌-◌, ◌*◌, eqb, leb, ltb, length, drop, Result, Ok, Err}
use Rattle.refusal.specs.declared.Refusal.{Refusal}
use Rattle.refusal.specs.declared.Refusal.TheVariants.{Second, Room}
use Rattle.refusal.specs.Judging.{Judged, checked, and_then, if_accepted}
use Rattle.draft.specs.declared.Mended.{Mended}
use Rattle.walk.specs.Walk.{scan}
use Rattle.house.specs.House.{count_of, speed_at, flags_at, phase_of, draft_headed, missing_at, draft_good, with_phase}
use Rattle.house.specs.Written.{file_of}
use Rattle.trace.specs.Judging.{judge_file}

-- ---- "Refusals: in the tool 1 to 4 read by version 3; in the turning also 4 with the first open second"
abbrev pub good_for : Bool → List ℕ → ℕ → Bool
good_for turning draft k = draft_good draft k && not (turning && missing_at draft k)

-- the first of the n seconds from k on that is not. Its place counts from 1
abbrev pub judge_seconds : Bool → List ℕ → ℕ → ℕ → Judged
judge_seconds turning draft = scan (good_for turning draft) (λ k. Err (Second (k + 1))) (λ k. Ok tt)

unfoldable pub judge_draft : Bool → List ℕ → Judged
judge_draft turning draft = judge_file (draft_headed draft) draft (judge_seconds turning draft 0 (count_of draft))

-- ---- "a gap": the seconds with the phase missing around second k, from the one behind the last known second before it
unfoldable pub gap_from : List ℕ → ℕ → ℕ
gap_from draft zero = 0
gap_from draft (suc k) = cond (missing_at draft k) (gap_from draft k) (suc k)

-- to before the first known second from it on, or the end of the draft
abbrev pub gap_to : List ℕ → ℕ → ℕ
gap_to draft k = scan (missing_at draft) (λ i. i) (λ i. i) k (count_of draft - k)

-- "every speed .. is equal": the seconds from `from` on, to before `to`, have the speed of the first
abbrev pub level : List ℕ → ℕ → ℕ → Bool
level draft from to = scan (λ k. eqb (speed_at draft k) (speed_at draft from)) (λ k. false) (λ k. true) from (to - from)

-- "with the same phase, and every speed in the gap and those two is equal": of the gap from `from` to before `to` and the seconds beside it
abbrev pub alike : List ℕ → ℕ → ℕ → Bool
alike draft from to = eqb (phase_of (flags_at draft (from - 1))) (phase_of (flags_at draft to)) && level draft (from - 1) (to + 1)

-- "Where known seconds stand on both sides of a gap"
abbrev pub bounded : List ℕ → ℕ → ℕ → Bool
bounded draft from to = leb 1 from && (ltb to (count_of draft) && alike draft from to)

abbrev pub is_bounded : List ℕ → ℕ → Bool
is_bounded draft k = bounded draft (gap_from draft k) (gap_to draft k)

-- "seconds changed", and "the seconds left open": "any other gap stays"
abbrev pub changed_at : List ℕ → ℕ → Bool
changed_at draft k = missing_at draft k && is_bounded draft k

abbrev pub open_at : List ℕ → ℕ → Bool
open_at draft k = missing_at draft k && not (is_bounded draft k)

-- "the gap takes that phase"
abbrev pub mended_flags : List ℕ → ℕ → ℕ
mended_flags draft k = cond (changed_at draft k) (with_phase (flags_at draft k) (phase_of (flags_at draft (gap_to draft k)))) (flags_at draft k)

-- "Every other second comes out unaltered"; "the result is a draft, version 3, still"
abbrev pub mended : List ℕ → List ℕ
mended draft = file_of 3 (speed_at draft) (mended_flags draft) (count_of draft)

-- "A draft with nothing open can be turned into version 1, the same seconds and marks"
abbrev pub turned : List ℕ → List ℕ
turned draft = file_of 1 (speed_at draft) (flags_at draft) (count_of draft)

-- ---- "the .. list of seconds .., both rising": of the first n seconds, those for which it holds, counted from 1
unfoldable pub seconds_where : (ℕ → Bool) → ℕ → List ℕ
seconds_where holds zero = []
seconds_where holds (suc n) = cond (holds n) (seconds_where holds n ++ (suc n ∷ [])) (seconds_where holds n)

-- the seconds changed, or those left open
abbrev pub listed_at : List ℕ → Bool → ℕ → Bool
listed_at draft changed k = cond changed (changed_at draft k) (open_at draft k)

abbrev pub list_of : List ℕ → Bool → List ℕ
list_of draft changed = seconds_where (listed_at draft changed) (count_of draft)

-- ---- mending: "8 for any output too small" for this answer
abbrev pub fits : List ℕ → ℕ → ℕ → ℕ → Bool
fits draft room changed_room open_room =
    leb (8 + 4 * count_of draft) room && (leb (length (list_of draft true)) changed_room && leb (length (list_of draft false)) open_room)

unfoldable pub judge_mend : List ℕ → ℕ → ℕ → ℕ → Judged
judge_mend draft room changed_room open_room = and_then (judge_draft false draft) (checked (fits draft room changed_room open_room) Room (Ok tt))

-- "the count and list of seconds changed and the seconds left open"
abbrev pub counted : Judged → List ℕ → Result Mended Refusal
counted (Ok _) draft = Ok (record { changed = length (list_of draft true); left = length (list_of draft false) })
counted (Err refusal) draft = Err refusal

abbrev pub mend_answer : List ℕ → ℕ → ℕ → ℕ → Result Mended Refusal
mend_answer draft room changed_room open_room = counted (judge_mend draft room changed_room open_room) draft

-- an output at the end: what is new at its front, and the rest as it was; on a refusal all of it
abbrev pub at_front : Judged → List ℕ → List ℕ → List ℕ
at_front judged new old = if_accepted judged (new ++ drop (length new) old) old

-- the three outputs, from what was lent
abbrev pub draft_after : List ℕ → List ℕ → List ℕ → List ℕ → List ℕ
draft_after draft buffer changed left = at_front (judge_mend draft (length buffer) (length changed) (length left)) (mended draft) buffer

abbrev pub changed_after : List ℕ → List ℕ → List ℕ → List ℕ → List ℕ
changed_after draft buffer changed left = at_front (judge_mend draft (length buffer) (length changed) (length left)) (list_of draft true) changed

abbrev pub left_after : List ℕ → List ℕ → List ℕ → List ℕ → List ℕ
left_after draft buffer changed left = at_front (judge_mend draft (length buffer) (length changed) (length left)) (list_of draft false) left

-- ---- turning
unfoldable pub judge_turn : List ℕ → ℕ → Judged
judge_turn draft room = and_then (judge_draft true draft) (checked (leb (8 + 4 * count_of draft) room) Room (Ok tt))

abbrev pub turned_after : List ℕ → List ℕ → List ℕ
turned_after draft buffer = at_front (judge_turn draft (length buffer)) (turned draft) buffer
