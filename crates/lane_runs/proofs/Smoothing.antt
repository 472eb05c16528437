-- Second by second the lanes become what correction 6 makes of the row of each: what the live engine knows of a second is what its lane has. Assumes nothing.
use mathlib.Core.Path.{◌≡◌, refl, sym, ap, subst, ◌∙◌}
use mathlib.Core.Bool.{Bool, true, false, cond, ◌||◌, false≢true}
use mathlib.Core.List.{List}
use Prim.Native.Nat.{ℕ, zero, suc, ◌+◌, ◌-◌, ◌*◌, ◌≤◌, ◌<◌}
use native.Mathlib.Decide.{dec_lt, dec_le}
use native.Mathlib.Numerals.{add-one}
use native.Mathlib.Omega.{arith}
use borrow.Author.Tests.{eqb-true, leb-true, leb-false}
use lib.Dec.{eqb, leb}
use lib.ListN.{length}
use Rattle.walk.specs.Walk.{scan}
use Rattle.walk.proofs.Ends.{search-ends}
use Rattle.house.specs.House.{flags_at, stop, stop_at, no_first}
use Rattle.row.specs.Row.{gear_at}
use Rattle.runs.specs.Runs.{smoothed}
use Rattle.live.specs.declared.Pending.{Pending}
use Rattle.live.specs.Live.{stays, pending_after}
use Rattle.live.proofs.Cases.{over_none, over-stop, reach-none, after_stop, after-former}
use Rattle.live.proofs.Register.{known, known_in, known-old, known-new}
use Rattle.live.proofs.Smoothing.{former_of, before_of, reach_at, smoothed-rows}
use Rattle.lanes.specs.Lanes.{lane_at, Holds}
use Rattle.lane_runs.specs.Runs.{reach_by, left_after, count_after, LaneJudged, RunsJudged, Rests, Judges, Smooths}
use Rattle.lane_runs.proofs.Standing.{Stand, rests, reach-same, reach_few, stand-next}

either : (a b : Bool) → (a || b) ≡ false → (a ≡ false) × (b ≡ false)
either true b e = absurd (false≢true (sym e))
either false b e = (refl, e)

-- the gears of a row, and what is pending before each second
module _ (trace row : List ℕ) where
  abbrev gear : ℕ → ℕ
  gear k = gear_at row k

  pub pendings : ℕ → Pending
  pendings zero = stays
  pendings (suc k) = pending_after (pendings k) (former_of trace k) (before_of gear k) (flags_at trace k) (gear k)

  abbrev reaches : ℕ → ℕ
  reaches = reach_at trace gear pendings

  -- nothing is pending behind a stop
  none-pending : (k : ℕ) → stop (former_of trace k) ≡ true → (pendings k).count ≡ 0
  unfolding pendings
  none-pending zero halt = refl
  none-pending (suc k) halt = ap (λ (q : Pending). q.count) (after_stop (pendings k) (flags_at trace k) (gear k) (former_of trace k) (before_of gear k) halt)

  -- a lane when k of n seconds are judged
  pub record LaneReached (n : ℕ) (lanes runs : List ℕ) (j k : ℕ) : Type 0 where
    pub done : (i : ℕ) → i < k → lane_at lanes j i ≡ known gear reaches k i
    pub coming : (i : ℕ) → k ≤ i → i < n → lane_at lanes j i ≡ gear i
    pub stand : Stand (pendings k) (lane_at runs j 0) (lane_at runs j 1)

  module _ (n : ℕ) (lanes lanes' runs runs' : List ℕ) (j k : ℕ) (few : j < 16) (l : k < n) (r : LaneReached n lanes runs j k) where
    own : lane_at lanes j k ≡ gear k
    own = r.coming k (omega arith) l

    -- ---- at a stop, and behind one
    module _ (s : Rests lanes lanes' runs runs') (quiet : reaches k ≡ 0) (after : (pendings (suc k)).count ≡ 0) where
      rest-done : (i : ℕ) → i < k + 1 → Dec (i < k) → lane_at lanes' j i ≡ known gear reaches (suc k) i
      rest-done i h (yes below) = ap (λ (m : List ℕ). lane_at m j i) s.same ∙ r.done i below ∙ sym (known-old gear reaches k i (omega (arith, quiet)))
      rest-done i h (no above) =
          let here : i ≡ k = omega arith in
          ap (λ (m : List ℕ). lane_at m j i) s.same ∙ ap (lane_at lanes j) here ∙ own ∙ sym (ap (known gear reaches (suc k)) here ∙ known-new gear reaches k)

      rest-next : LaneReached n lanes' runs' j (suc k)
      rest-next = record {
        done = λ i h. rest-done i (omega arith) (dec_lt i k);
        coming = λ i h l'. ap (λ (m : List ℕ). lane_at m j i) s.same ∙ r.coming i (omega arith) l';
        stand = rests (s.lane j few) after;
      }

    -- ---- outside
    module _ (drive : stop (flags_at trace k) ≡ false) (moving : stop (former_of trace k) ≡ false) (some : gear k ≡ 0 → ⊥) (drove : before_of gear k ≡ 0 → ⊥)
        (before : lane_at lanes j (k - 1) ≡ before_of gear k) (s : RunsJudged (no_first (flags_at trace k)) (k - 1) k lanes lanes' runs runs') where
      abbrev lane : LaneJudged (no_first (flags_at trace k)) (k - 1) k lanes lanes' runs runs' j
      lane = s.lane j few

      reach-is : reach_by (lane_at runs j 0) (lane_at runs j 1) (lane_at lanes j k) ≡ reaches k
      reach-is =
          ap (reach_by (lane_at runs j 0) (lane_at runs j 1)) own
          ∙ sym (reach-same (pendings k) (flags_at trace k) (gear k) drive some (lane_at runs j 0) (lane_at runs j 1) r.stand)

      short : reaches k ≤ 4
      short = reach_few (pendings k) (flags_at trace k) (gear k) drive some (lane_at runs j 0) (lane_at runs j 1) r.stand

      near-done : (i d : ℕ) → i + d ≡ k → 1 ≤ d → d ≤ 4 → (b : Bool) → leb d (reaches k) ≡ b
          → cond b (lane_at lanes j k) (lane_at lanes j i) ≡ known gear reaches (suc k) i
      near-done i d e one four true is =
          let within = leb-true d (reaches k) is in
          own ∙ sym (known_in gear reaches k i (omega arith))
      near-done i d e one four false is =
          let past = leb-false d (reaches k) is in
          r.done i (omega arith) ∙ sym (known-old gear reaches k i (omega arith))

      drive-done : (i : ℕ) → i < k + 1 → Dec (i < k) → lane_at lanes' j i ≡ known gear reaches (suc k) i
      drive-done i h (no above) =
          let here : i ≡ k = omega arith in
          ap (lane_at lanes' j) here ∙ lane.far k (λ d one four e. omega arith) ∙ own ∙ sym (ap (known gear reaches (suc k)) here ∙ known-new gear reaches k)
      drive-done i h (yes below) = go (dec_le (k - i) 4)
        where
          go : Dec (k - i ≤ 4) → lane_at lanes' j i ≡ known gear reaches (suc k) i
          go (yes four) =
              lane.near i (k - i) (omega arith) four (omega arith)
              ∙ ap (λ (n : ℕ). cond (leb (k - i) n) (lane_at lanes j k) (lane_at lanes j i)) reach-is
              ∙ near-done i (k - i) (omega arith) (omega arith) four (leb (k - i) (reaches k)) refl
          go (no more) =
              lane.far i (λ d one four e. more (omega arith))
              ∙ r.done i below
              ∙ sym (known-old gear reaches k i (omega (arith, short)))

      stand-is : Stand (pendings (suc k)) (lane_at runs' j 0) (lane_at runs' j 1)
      unfolding pendings
      stand-is =
          subst (λ (count : ℕ). Stand (pendings (suc k)) count (lane_at runs' j 1))
          (sym (lane.count ∙ (λ i. count_after (lane_at runs j 0) (before i) (own i))))
          (subst (Stand (pendings (suc k)) (count_after (lane_at runs j 0) (before_of gear k) (gear k)))
          (sym (lane.left ∙ (λ i. left_after (no_first (flags_at trace k)) (lane_at runs j 0) (lane_at runs j 1) (before i) (own i))))
          (stand-next (pendings k) (flags_at trace k) (gear k) drive some (former_of trace k) (before_of gear k) moving drove (lane_at runs j 0) (lane_at runs j 1) r.stand))

      drive-next : LaneReached n lanes' runs' j (suc k)
      drive-next = record {
        done = λ i h. drive-done i (omega arith) (dec_lt i k);
        coming = λ i h l'. lane.far i (λ d one four e. omega arith) ∙ r.coming i (omega arith) l';
        stand = stand-is;
      }

  -- ---- a second of a lane
  module _ (n : ℕ) (drives : (k : ℕ) → k < n → stop_at trace k ≡ false → gear k ≡ 0 → ⊥) (lanes lanes' runs runs' : List ℕ) (j : ℕ) (few : j < 16) where
    by_flags : (k : ℕ) → k < n → LaneReached n lanes runs j k → (a b : Bool) → stop (flags_at trace k) ≡ a → stop (former_of trace k) ≡ b
        → cond (a || b) (Rests lanes lanes' runs runs') (RunsJudged (no_first (flags_at trace k)) (k - 1) k lanes lanes' runs runs') → LaneReached n lanes' runs' j (suc k)
    unfolding pendings
    by_flags k l r true b halt former s =
        rest-next n lanes lanes' runs runs' j k few l r s
        (reach-none (pendings k) (flags_at trace k) (gear k) (over-stop (pendings k) (flags_at trace k) (gear k) halt))
        (ap (λ (q : Pending). q.count) (after_stop (pendings k) (flags_at trace k) (gear k) (former_of trace k) (before_of gear k) halt))
    by_flags k l r false true drive halted s =
        rest-next n lanes lanes' runs runs' j k few l r s
        (reach-none (pendings k) (flags_at trace k) (gear k) (over_none (pendings k) (flags_at trace k) (gear k) (none-pending k halted)))
        (ap (λ (q : Pending). q.count) (after-former (pendings k) (flags_at trace k) (gear k) (former_of trace k) (before_of gear k) halted))
    by_flags zero l r false false drive moving s = absurd (false≢true (sym moving))
    by_flags (suc k) l r false false drive moving s =
        let less : suc k - 1 ≡ k = omega arith in
        drive-next n lanes lanes' runs runs' j (suc k) few l r drive moving (drives (suc k) l drive) (drives k (omega arith) moving)
        (ap (lane_at lanes j) less ∙ r.done k (omega arith) ∙ known-new gear reaches k) s

    pub lane-next : (k : ℕ) → k < n → LaneReached n lanes runs j k → Judges (former_of trace k) (flags_at trace k) (k - 1) k lanes lanes' runs runs'
        → LaneReached n lanes' runs' j (suc k)
    unfolding Judges
    lane-next k l r s = by_flags k l r (stop (flags_at trace k)) (stop (former_of trace k)) refl refl s

  -- ---- all seconds
  module _ (n : ℕ) (room : 2 * n ≤ length row) where
    known-smoothed : (k : ℕ) → k < n → known gear reaches n k ≡ gear_at (smoothed trace row n) k
    unfolding pendings
    known-smoothed k l =
        let all = smoothed-rows trace gear pendings row n room (λ k l drive. refl) refl (λ k. refl) in
        go (stop_at trace k) refl (all.halts k l) (all.drives k l)
      where
        go : (b : Bool) → stop_at trace k ≡ b
            → (stop_at trace k ≡ true → (gear_at (smoothed trace row n) k ≡ gear_at row k) × (known gear reaches n k ≡ gear k))
            → (stop_at trace k ≡ false → gear_at (smoothed trace row n) k ≡ known gear reaches n k) → known gear reaches n k ≡ gear_at (smoothed trace row n) k
        go true halt halts drives = (halts halt).1 ∙ sym (halts halt).0
        go false drive halts drives = sym (drives drive)

-- all lanes when k seconds are judged
pub record Reached (trace lanes₀ : List ℕ) (n : ℕ) (lanes runs : List ℕ) (former k : ℕ) : Type 0 where
  pub long : length lanes ≡ length lanes₀
  pub wide : length runs ≡ 48
  pub behind : former ≡ former_of trace k
  pub lane : (j : ℕ) → j < 16 → (row : List ℕ) → 2 * n ≤ length row → Holds lanes₀ row n j
      → ((k : ℕ) → k < n → stop_at trace k ≡ false → gear_at row k ≡ 0 → ⊥) → LaneReached trace row n lanes runs j k

module _ (trace lanes₀ : List ℕ) (n : ℕ) where
  pub reached-none : (runs : List ℕ) → length runs ≡ 48 → scan (λ j. eqb (lane_at runs j 1) 0) (λ j. j) (λ j. j) 0 16 ≡ 16 → Reached trace lanes₀ n lanes₀ runs 0 0
  unfolding pendings
  reached-none runs wide none = record {
    long = refl;
    wide = wide;
    behind = refl;
    lane = λ j l row room holds drives. record {
      done = λ i h. absurd (let z : ⊥ = omega arith in z);
      coming = λ i h l'. holds i l';
      stand = rests (eqb-true (lane_at runs j 1) 0 ((search-ends (λ j. eqb (lane_at runs j 1) 0) 16 0 16 refl).inside j (omega arith) (omega (arith, none)))) refl;
    };
  }

  judges-long : (former flags p k : ℕ) (lanes lanes' runs runs' : List ℕ) → Judges former flags p k lanes lanes' runs runs'
      → (length lanes' ≡ length lanes) × (length runs' ≡ length runs)
  unfolding Judges
  judges-long former flags p k lanes lanes' runs runs' s = go (stop flags || stop former) s
    where
      go : (b : Bool) → cond b (Rests lanes lanes' runs runs') (RunsJudged (no_first flags) p k lanes lanes' runs runs')
          → (length lanes' ≡ length lanes) × (length runs' ≡ length runs)
      go true r = (ap length r.same, r.long_runs)
      go false r = (r.long, r.long_runs)

  pub reached-next : (lanes lanes' runs runs' : List ℕ) (former flags p k : ℕ) → k < n → flags ≡ flags_at trace k → p ≡ k - 1 → Reached trace lanes₀ n lanes runs former k
      → Judges former flags p k lanes lanes' runs runs' → Reached trace lanes₀ n lanes' runs' flags (k + 1)
  reached-next lanes lanes' runs runs' former flags p k l read prior r s =
      let long = judges-long former flags p k lanes lanes' runs runs' s in
      let behind = r.behind in
      let judged = subst (λ (t : Type 0). t) (λ i. Judges (behind i) (read i) (prior i) k lanes lanes' runs runs') s in
      record {
        long = long.0 ∙ r.long;
        wide = long.1 ∙ r.wide;
        behind = read ∙ ap (former_of trace) (sym (add-one k));
        lane = λ j few row room holds drives.
            subst (LaneReached trace row n lanes' runs' j) (sym (add-one k))
            (lane-next trace row n drives lanes lanes' runs runs' j few k l (r.lane j few row room holds drives) judged);
      }

  pub reached-all : (lanes runs : List ℕ) (former k : ℕ) → k ≡ n → Reached trace lanes₀ n lanes runs former k → Smooths trace lanes₀ lanes n
  reached-all lanes runs former k all r = record {
    long = r.long;
    lane = λ j few row room holds drives i h.
        (r.lane j few row room holds drives).done i (omega arith)
        ∙ ap (λ (k : ℕ). known (gear trace row) (reaches trace row) k i) all
        ∙ known-smoothed trace row n room i h;
  }
