-- The tool's definitions at literals: a draft of nine seconds with four gaps, what is refused, and what is turned. Assumes nothing.
use mathlib.Core.Path.{◌≡◌, refl}
use mathlib.Core.Bool.{true, false}
use mathlib.Core.List.{List, [], ◌∷◌, ◌++◌}
use Prim.Native.Nat.{ℕ}
use lib.ListN.{set, take}
use Rattle.std.specs.Prelude.{Ok, Err}
use Rattle.refusal.specs.declared.Refusal.TheVariants.{Header, Count, Length, Second, Room}
use Rattle.house.specs.Written.{seconds_to}
use Rattle.trace.specs.Judging.{judge_trace}
use Rattle.draft.specs.Draft.{judge_draft, gap_from, mended, turned, seconds_where, list_of, judge_mend, mend_answer, judge_turn}

-- a gap at the start; a stop; one with a mark between stops at 0.0 km/h; a stop; one where an acceleration follows; one at the end
abbrev draft : List ℕ
draft =
    (87 ∷ 84 ∷ 82 ∷ 0 ∷ 3 ∷ 0 ∷ 9 ∷ 0 ∷ [])
    ++ (0 ∷ 0 ∷ 16 ∷ 0 ∷ 0 ∷ 0 ∷ 0 ∷ 0 ∷ 0 ∷ 0 ∷ 20 ∷ 0 ∷ 0 ∷ 0 ∷ 24 ∷ 0 ∷ 0 ∷ 0 ∷ 4 ∷ 0 ∷ [])
    ++ (0 ∷ 0 ∷ 16 ∷ 0 ∷ 0 ∷ 0 ∷ 1 ∷ 0 ∷ 44 ∷ 1 ∷ 1 ∷ 0 ∷ 44 ∷ 1 ∷ 16 ∷ 0 ∷ [])

-- seconds 3 and 4 take the stop, and keep their own marks; 1, 6 and 9 stay
filled : mended draft ≡ set (set draft 18 4) 22 8
unfolding seconds_to gap_from
filled = refl

lists : (list_of draft true ≡ 3 ∷ 4 ∷ []) × (list_of draft false ≡ 1 ∷ 6 ∷ 9 ∷ [])
unfolding seconds_where gap_from
lists = (refl, refl)

-- one speed of the gap is another, and so is that of the known second behind it
unequal : (list_of (set draft 16 1) true ≡ []) × (list_of (set draft 24 1) true ≡ []) × (list_of (set draft 26 6) true ≡ [])
unfolding seconds_where gap_from
unequal = (refl, refl, refl)

-- exactly so much room, and one less of each
rooms : (mend_answer draft 44 2 3 ≡ Ok (record { changed = 2; left = 3 })) × (mend_answer draft 43 2 3 ≡ Err Room) × (mend_answer draft 44 1 3 ≡ Err Room) × (mend_answer draft 44 2 2 ≡ Err Room)
unfolding judge_mend judge_draft seconds_where gap_from
rooms = (refl, refl, refl, refl)

-- 1 to 4 by version 3, before 8: the version, the count, the length; a phase beside bit 4, bit 5, the speed, the fourth byte
refusals : (mend_answer (set draft 4 1) 0 0 0 ≡ Err Header) × (mend_answer (set draft 6 0) 0 0 0 ≡ Err Count) × (mend_answer (take 43 draft) 0 0 0 ≡ Err Length)
    × (mend_answer (set draft 10 17) 0 0 0 ≡ Err (Second 1)) × (mend_answer (set draft 10 32) 0 0 0 ≡ Err (Second 1))
    × (mend_answer (set draft 41 8) 0 0 0 ≡ Err (Second 9)) × (mend_answer (set draft 15 1) 0 0 0 ≡ Err (Second 2))
unfolding judge_mend judge_draft
refusals = (refl, refl, refl, refl, refl, refl, refl)

-- turning: 4 with the first open second, or an earlier faulty one; then 8; with nothing open version 1, which a trace's judge takes, and a draft it does not
abbrev whole : List ℕ
whole = 87 ∷ 84 ∷ 82 ∷ 0 ∷ 3 ∷ 0 ∷ 2 ∷ 0 ∷ 44 ∷ 1 ∷ 13 ∷ 0 ∷ 0 ∷ 0 ∷ 4 ∷ 0 ∷ []

turns : (judge_turn draft 0 ≡ Err (Second 1)) × (judge_turn (set (set draft 10 0) 15 1) 0 ≡ Err (Second 2))
    × (judge_turn whole 15 ≡ Err Room) × (judge_turn whole 16 ≡ Ok tt)
unfolding judge_turn judge_draft
turns = (refl, refl, refl, refl)

driven : (turned whole ≡ set whole 4 1) × (judge_trace (turned whole) ≡ Ok tt) × (judge_trace whole ≡ Err Header)
unfolding seconds_to judge_trace
driven = (refl, refl, refl)
