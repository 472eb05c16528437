-- 01, Corrections, 6: "A run of 1 to 4 seconds of one gear, with the same other gear on both sides, neither neighbour a stop, takes that gear;
-- unless that is 1 and the run has a 'no 1. gear' second. A run holds no stop second and ends at one. Runs are judged in order of first second,
-- as the row then is; a replaced run and the two beside it become one run, which counts as judged." Seconds count from 0 here, and n is their count.
use Rattle.std.specs.Prelude.{ℕ, zero, suc, ◌+◌, ◌-◌, ◌<◌, ◌≤◌, Bool, true, false, not, cond, ◌&&◌, ◌≡◌, List, eqb, leb, ltb}
use Rattle.walk.specs.Walk.{in_turn, scan}
use Rattle.house.specs.House.{stop_at, no_first_at}
use Rattle.row.specs.Row.{gear_at, set_gear}

-- a run of the gear goes on at second k
abbrev pub goes_on : List ℕ → List ℕ → ℕ → ℕ → Bool
goes_on trace row gear k = not (stop_at trace k) && eqb (gear_at row k) gear

-- the end of a run of the gear: of the seconds from one on, as many as are said, the first at which it does not go on
abbrev pub run_end : List ℕ → List ℕ → ℕ → ℕ → ℕ → ℕ
run_end trace row gear = scan (goes_on trace row gear) (λ k. k) (λ k. k)

-- the end of the run that starts at `start`: the first second behind it
abbrev pub end_at : List ℕ → List ℕ → ℕ → ℕ → ℕ
end_at trace row n start = run_end trace row (gear_at row start) (start + 1) (n - (start + 1))

-- whether one of the seconds from one on, as many as are said, is a "no 1. gear" second
abbrev pub has_no_first : List ℕ → ℕ → ℕ → Bool
has_no_first trace = scan (λ k. not (no_first_at trace k)) (λ k. true) (λ k. false)

-- the row with the gear at the seconds from `start` on, as many as are said
abbrev pub filled : List ℕ → ℕ → ℕ → ℕ → List ℕ
filled row start gear count = in_turn (λ state k. set_gear state (start + k) gear) row count

-- whether the run from `start` to before `end` takes the gear beside it. It has a second on both sides, or it stays
unfoldable pub takes : List ℕ → List ℕ → ℕ → ℕ → ℕ → Bool
takes trace row n start end =
    cond (eqb start 0) false
    (cond (leb n end) false
    (not (stop_at trace (start - 1)) && not (stop_at trace end) && leb (end - start) 4 && eqb (gear_at row (start - 1)) (gear_at row end)
    && not (eqb (gear_at row end) 1 && has_no_first trace start (end - start))))

-- the run judged: the row after it, and where what is judged next starts
unfoldable pub run_judged : List ℕ → List ℕ → ℕ → ℕ → ℕ → List ℕ
run_judged trace row n start end = cond (takes trace row n start end) (filled row start (gear_at row end) (end - start)) row

unfoldable pub run_next : List ℕ → List ℕ → ℕ → ℕ → ℕ → ℕ
run_next trace row n start end = cond (takes trace row n start end) (end_at trace (filled row start (gear_at row end) (end - start)) n end) end

-- the same at a second where a run starts, or that is a stop
unfoldable pub row_after : List ℕ → List ℕ → ℕ → ℕ → List ℕ
unfolding run_judged
row_after trace row n start = cond (stop_at trace start) row (run_judged trace row n start (end_at trace row n start))

unfoldable pub next_after : List ℕ → List ℕ → ℕ → ℕ → ℕ
unfolding run_next
next_after trace row n start = cond (stop_at trace start) (start + 1) (run_next trace row n start (end_at trace row n start))

-- all from `start` on judged. The fuel bounds the turns: as many as there are seconds left are enough (proofs/Fuel.antt)
unfoldable pub smooth : List ℕ → ℕ → List ℕ → ℕ → ℕ → List ℕ
smooth trace n row start zero = row
smooth trace n row start (suc fuel) =
    cond (ltb start n) (smooth trace n (row_after trace row n start) (next_after trace row n start) fuel) row

-- correction 6
unfoldable pub smoothed : List ℕ → List ℕ → ℕ → List ℕ
unfolding smooth
smoothed trace row n = smooth trace n row 0 n

-- a turn of the loop: the row that it leaves, and the second that it goes on to
pub record Turn (trace row : List ℕ) (n start : ℕ) (row' : List ℕ) (next : ℕ) : Type 0 where
  pub leaves : row' ≡ row_after trace row n start
  pub goes : next ≡ next_after trace row n start
  pub on : start < next
  pub within : next ≤ n
