-- 01, Corrections, 6, of the rows of all lanes, judged second by second. Lanes, lines and seconds count from 0 here.
use Rattle.std.specs.Prelude.{ℕ, ◌+◌, ◌-◌, ◌*◌, ◌<◌, ◌≤◌, ◌≡◌, Bool, false, cond, ◌&&◌, ◌||◌, List, eqb, leb, ltb, length}
use Rattle.house.specs.House.{stop, stop_at, no_first}
use Rattle.row.specs.Row.{gear_at}
use Rattle.runs.specs.Runs.{smoothed}
use Rattle.lanes.specs.Lanes.{lane_at, line_by, Holds}

-- a run of `count` seconds, with the gear `left` on its left, meets a second of another gear: "with the same other gear on both sides .. takes that gear". A run that stays has 0 on its
-- left, which is the gear of no second outside stops
abbrev pub reach_by : ℕ → ℕ → ℕ → ℕ
reach_by count left gear = cond (eqb left gear) count 0

-- behind a second of the gear `before`: "a run of 1 to 4 seconds"; "unless that is 1 and the run has a 'no 1. gear' second"; "a replaced run .. counts as judged"
abbrev pub left_after : Bool → ℕ → ℕ → ℕ → ℕ → ℕ
left_after marked count left before gear =
    cond (eqb gear before)
    (cond (ltb 3 count || (marked && eqb left 1)) 0 left)
    (cond (eqb left gear || (marked && eqb before 1)) 0 before)

abbrev pub count_after : ℕ → ℕ → ℕ → ℕ
count_after count before gear = cond (eqb gear before) (cond (ltb count 5) (count + 1) count) 1

-- no lane's line 2 reaches a second
abbrev pub NoneReached : List ℕ → Type 0
NoneReached runs = (j : ℕ) → j < 16 → lane_at runs j 2 ≡ 0

-- the second d + 1 before second k takes its gear in the lanes that reach it
abbrev pub taken_at : ℕ → List ℕ → ℕ → List ℕ → List ℕ
taken_at d runs k lanes =
    cond (ltb d k) (line_by (λ m j. cond (leb (d + 1) (lane_at runs j 2)) (lane_at m j k) (lane_at m j (k - (d + 1)))) (k - (d + 1)) lanes 16) lanes

-- of the seconds before second k, up to so many, each has taken its gear that its lane's line 2 reaches
pub record TakenTo (most : ℕ) (runs : List ℕ) (k : ℕ) (lanes lanes' : List ℕ) : Type 0 where
  pub long : length lanes' ≡ length lanes
  pub near : (j i d : ℕ) → j < 16 → 1 ≤ d → d ≤ most → i + d ≡ k → lane_at lanes' j i ≡ cond (leb d (lane_at runs j 2)) (lane_at lanes j k) (lane_at lanes j i)
  pub far : (j i : ℕ) → j < 16 → ((d : ℕ) → 1 ≤ d → d ≤ most → i + d ≡ k → ⊥) → lane_at lanes' j i ≡ lane_at lanes j i

-- lane j at second k, outside stops and not behind one
pub record LaneJudged (marked : Bool) (p k : ℕ) (lanes lanes' runs runs' : List ℕ) (j : ℕ) : Type 0 where
  pub count : lane_at runs' j 0 ≡ count_after (lane_at runs j 0) (lane_at lanes j p) (lane_at lanes j k)
  pub left : lane_at runs' j 1 ≡ left_after marked (lane_at runs j 0) (lane_at runs j 1) (lane_at lanes j p) (lane_at lanes j k)
  pub near : (i d : ℕ) → 1 ≤ d → d ≤ 4 → i + d ≡ k
      → lane_at lanes' j i ≡ cond (leb d (reach_by (lane_at runs j 0) (lane_at runs j 1) (lane_at lanes j k))) (lane_at lanes j k) (lane_at lanes j i)
  pub far : (i : ℕ) → ((d : ℕ) → 1 ≤ d → d ≤ 4 → i + d ≡ k → ⊥) → lane_at lanes' j i ≡ lane_at lanes j i

-- of all lanes
pub record RunsJudged (marked : Bool) (p k : ℕ) (lanes lanes' runs runs' : List ℕ) : Type 0 where
  pub long : length lanes' ≡ length lanes
  pub long_runs : length runs' ≡ length runs
  pub lane : (j : ℕ) → j < 16 → LaneJudged marked p k lanes lanes' runs runs' j

-- a run "holds no stop second and ends at one": at one and behind one nothing is taken, and what starts there stays
pub record Rests (lanes lanes' runs runs' : List ℕ) : Type 0 where
  pub same : lanes' ≡ lanes
  pub long_runs : length runs' ≡ length runs
  pub lane : (j : ℕ) → j < 16 → lane_at runs' j 1 ≡ 0

-- second k of all lanes, behind one with the flags `former`
unfoldable pub Judges : ℕ → ℕ → ℕ → ℕ → List ℕ → List ℕ → List ℕ → List ℕ → Type 0
Judges former flags p k lanes lanes' runs runs' = cond (stop flags || stop former) (Rests lanes lanes' runs runs') (RunsJudged (no_first flags) p k lanes lanes' runs runs')

-- what it makes of the lanes: of the row of each lane the smoothed row, where no second outside stops is in neutral
pub record Smooths (trace before after : List ℕ) (n : ℕ) : Type 0 where
  pub long : length after ≡ length before
  pub lane : (j : ℕ) → j < 16 → (row : List ℕ) → 2 * n ≤ length row → Holds before row n j
      → ((k : ℕ) → k < n → stop_at trace k ≡ false → gear_at row k ≡ 0 → ⊥) → Holds after (smoothed trace row n) n j
