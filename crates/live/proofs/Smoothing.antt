-- Correction 6 taken one second at a time is that of the whole row: each turn of the whole row's loop is made once the live engine knows the second
-- behind the run. Assumes nothing.
use mathlib.Core.Path.{◌≡◌, refl, sym, ap, subst, ◌∙◌}
use mathlib.Core.Bool.{Bool, true, false, not, ◌&&◌, ◌||◌, false≢true}
use mathlib.Core.List.{List}
use Prim.Native.Nat.{ℕ, zero, suc, ◌+◌, ◌-◌, ◌*◌, ◌≤◌, ◌<◌}
use native.Mathlib.Numerals.{add-one}
use native.Mathlib.Decide.{dec_lt}
use native.Mathlib.Omega.{arith}
use borrow.Author.Tests.{eqb-true, eqb-false}
use lib.Dec.{eqb}
use lib.ListN.{length}
use Rattle.house.specs.House.{flags_at, stop, stop_at, no_first_at}
use Rattle.row.specs.Row.{gear_at}
use Rattle.runs.specs.Runs.{goes_on, end_at, has_no_first, filled, takes, smooth, smoothed}
use Rattle.runs.proofs.Runs.{Left, left-start, left-turn, left_end, turn-stop, turn-stays, turn-takes}
use Rattle.live.specs.declared.Pending.{Pending}
use Rattle.live.specs.Live.{has_mark, opened, longer, takes_over, reach, pending_after}
use Rattle.walk.proofs.Ends.{Ends, search-ends, ends_low, ends_at}
use Rattle.runs.proofs.Fills.{fill-length, fill-in, fill-before, fill-behind}
use Rattle.live.proofs.Register.{known, known_in, known-old, known-new}
use Rattle.live.proofs.Judged.{
  goes_by,
  goes-tells,
  ends-by-stop,
  ends-by-gear,
  other-gear,
  takes_first,
  takes-last,
  takes-behind-stop,
  takes-before-stop,
  takes-long,
  takes-is,
  one_more,
}
use Rattle.live.proofs.Cases.{
  over_none,
  over-stop,
  over-other,
  over-is,
  reach-none,
  reach-all,
  after_stop,
  after-former,
  after-goes,
  after-takes,
  mark-of,
  after-opens,
  longer-full,
  longer-more,
  stays_on,
}

-- the flags and the gear of the second before second j; the first one is as one behind a stop
abbrev pub former_of : List ℕ → ℕ → ℕ
former_of trace zero = 0
former_of trace (suc j) = flags_at trace j

abbrev pub before_of : (ℕ → ℕ) → ℕ → ℕ
before_of g zero = 0
before_of g (suc j) = g j

-- g is the gear of each second after correction 5, p what is pending before it
module _ (trace : List ℕ) (g : ℕ → ℕ) (p : ℕ → Pending) where
  abbrev pub reach_at : ℕ → ℕ
  reach_at j = reach (p j) (flags_at trace j) (g j)

  abbrev pub over_at : ℕ → Bool
  over_at j = takes_over (p j) (flags_at trace j) (g j)

  module _ (row : List ℕ) (n : ℕ) (long : 2 * n ≤ length row)
      (same : (k : ℕ) → k < n → stop_at trace k ≡ false → gear_at row k ≡ g k)
      (p-start : (p 0).count ≡ 0)
      (p-next : (j : ℕ) → p (suc j) ≡ pending_after (p j) (former_of trace j) (before_of g j) (flags_at trace j) (g j)) where
    abbrev goal : List ℕ
    goal = smooth trace n row 0 n

    -- a row on its way, when j seconds have been received: so far it is what is known, and from there on it is as it was
    pub record Rows (j : ℕ) (row' : List ℕ) : Type 0 where
      pub room : 2 * n ≤ length row'
      pub drives : (k : ℕ) → k < j → stop_at trace k ≡ false → gear_at row' k ≡ known g reach_at j k
      pub halts : (k : ℕ) → k < j → stop_at trace k ≡ true → (gear_at row' k ≡ gear_at row k) × (known g reach_at j k ≡ g k)
      pub coming : (k : ℕ) → j ≤ k → gear_at row' k ≡ gear_at row k

    -- nothing is pending: the second before j is a stop, or in a run that stays, and `next` is its end
    record Settled (j : ℕ) (row' : List ℕ) (next : ℕ) : Type 0 where
      turns : Left trace n goal row' next
      rows : Rows j row'
      none : (p j).count ≡ 0
      low : j ≤ next
      high : next ≤ n
      moving : j < next → stop (former_of trace j) ≡ false
      inside : (k : ℕ) → j ≤ k → k < next → (stop_at trace k ≡ false) × (gear_at row' k ≡ before_of g j)
      ends : next < n → stop (former_of trace j) ≡ false → goes_on trace row' (before_of g j) next ≡ false

    -- the run from `start` to before j is pending
    record Waits (j : ℕ) (row' : List ℕ) (start : ℕ) : Type 0 where
      turns : Left trace n goal row' start
      rows : Rows j row'
      some : 0 < start
      here : start + (p j).count ≡ j
      one : 0 < (p j).count
      few : (p j).count ≤ 4
      calm : stop_at trace (start - 1) ≡ false
      left : gear_at row' (start - 1) ≡ (p j).left
      other : (p j).left ≡ before_of g j → ⊥
      moving : stop (former_of trace j) ≡ false
      run : (k : ℕ) → start ≤ k → k < j → (stop_at trace k ≡ false) × (gear_at row' k ≡ before_of g j)
      marks : has_mark (p j) ≡ has_no_first trace start (p j).count

    data State (j : ℕ) : Type 0 where
      settled : (row' : List ℕ) (next : ℕ) → Settled j row' next → State j
      waits : (row' : List ℕ) (start : ℕ) → Waits j row' start → State j

    -- ---- a second that changes nothing before it
    rows_on : (j : ℕ) (row' : List ℕ) → j < n → reach_at j ≡ 0 → Rows j row' → Rows (suc j) row'
    rows_on j row' l e r = record {
      room = r.room;
      drives = λ k h drive. go k h drive (dec_lt k j);
      halts = λ k h halt. stood k h halt (dec_lt k j);
      coming = λ k h. r.coming k (omega arith);
    }
      where
        go : (k : ℕ) → k < suc j → stop_at trace k ≡ false → Dec (k < j) → gear_at row' k ≡ known g reach_at (suc j) k
        go k h drive (yes below) = r.drives k below drive ∙ sym (known-old g reach_at j k (omega (arith, e)))
        go k h drive (no above) =
            let here : k ≡ j = omega arith in
            r.coming k (omega arith) ∙ same k (omega arith) drive ∙ ap g here ∙ sym (known_in g reach_at j k (omega arith))

        stood : (k : ℕ) → k < suc j → stop_at trace k ≡ true → Dec (k < j) → (gear_at row' k ≡ gear_at row k) × (known g reach_at (suc j) k ≡ g k)
        stood k h halt (yes below) = ((r.halts k below halt).0, known-old g reach_at j k (omega (arith, e)) ∙ (r.halts k below halt).1)
        stood k h halt (no above) =
            let here : j ≡ k = omega arith in
            (r.coming k (omega arith), known_in g reach_at j k (omega arith) ∙ ap g here)

    row_here : (j : ℕ) (row' : List ℕ) → j < n → stop_at trace j ≡ false → Rows j row' → gear_at row' j ≡ g j
    row_here j row' l drive r = r.coming j (omega arith) ∙ same j l drive

    -- ---- where a run ends
    run_ends : (row' : List ℕ) (start : ℕ) → start < n → Ends (goes_on trace row' (gear_at row' start)) n (start + 1) (end_at trace row' n start)
    run_ends row' start l = search-ends (goes_on trace row' (gear_at row' start)) n (start + 1) (n - (start + 1)) (omega arith)

    -- ---- second j is in a run that stays, which starts at `start`
    settle : (j : ℕ) (row' : List ℕ) (start : ℕ) → start ≤ j → j < n → stop_at trace j ≡ false → gear_at row' start ≡ g j
        → Left trace n goal row' (end_at trace row' n start) → suc j ≤ end_at trace row' n start → Rows (suc j) row' → (p (suc j)).count ≡ 0 → State (suc j)
    settle j row' start h l drive is turns past rows none =
        let ends = run_ends row' start (omega arith) in
        settled row' (end_at trace row' n start) (record {
          turns = turns;
          rows = rows;
          none = none;
          low = past;
          high = ends.high;
          moving = λ below. drive;
          inside = λ k from to.
              let tells = goes-tells trace row' (gear_at row' start) k (ends.inside k (omega arith) to) in
              (tells.0, tells.1 ∙ is);
          ends = λ room moving. ap (λ (gear : ℕ). goes_on trace row' gear (end_at trace row' n start)) (sym is) ∙ ends.beyond room;
        })

    -- ---- a stop second
    halt-next : (j : ℕ) (row' : List ℕ) → j < n → stop_at trace j ≡ true → Left trace n goal row' j → Rows j row' → State (suc j)
    halt-next j row' l halt turns rows =
        let over = over-stop (p j) (flags_at trace j) (g j) halt in
        settled row' (suc j) (record {
          turns = subst (Left trace n goal row') (add-one j) (left-turn trace n goal row' j turns l row' (j + 1) (turn-stop trace row' n j halt l));
          rows = rows_on j row' l (reach-none (p j) (flags_at trace j) (g j) over) rows;
          none = ap (λ (q : Pending). q.count) (p-next j ∙ after_stop (p j) (flags_at trace j) (g j) (former_of trace j) (before_of g j) halt);
          low = omega arith;
          high = omega arith;
          moving = λ below. absurd (let z : ⊥ = omega arith in z);
          inside = λ k from to. absurd (let z : ⊥ = omega arith in z);
          ends = λ room moving. absurd (false≢true (sym moving ∙ halt));
        })

    -- ---- a run starts at second j, behind a stop or at the start of the trace
    behind-stop : (j : ℕ) (row' : List ℕ) (end : ℕ) → stop (former_of trace j) ≡ true → takes trace row' n j end ≡ false
    behind-stop zero row' end halt = takes_first trace row' n 0 end refl
    behind-stop (suc i) row' end halt =
        let less : suc i - 1 ≡ i = omega arith in
        takes-behind-stop trace row' n (suc i) end (ap (stop_at trace) less ∙ halt)

    begin-next : (j : ℕ) (row' : List ℕ) → j < n → stop_at trace j ≡ false → stop (former_of trace j) ≡ true → over_at j ≡ false
        → Left trace n goal row' j → Rows j row' → State (suc j)
    begin-next j row' l drive halt over turns rows =
        let ends = run_ends row' j l in
        let low = ends.low in
        settle j row' j (omega arith) l drive (row_here j row' l drive rows)
        (left-turn trace n goal row' j turns l row' (end_at trace row' n j)
        (turn-stays trace row' n j (end_at trace row' n j) drive refl (behind-stop j row' (end_at trace row' n j) halt) (omega arith) ends.high))
        (omega arith)
        (rows_on j row' l (reach-none (p j) (flags_at trace j) (g j) over) rows)
        (ap (λ (q : Pending). q.count) (p-next j ∙ after-former (p j) (flags_at trace j) (g j) (former_of trace j) (before_of g j) halt))

    -- ---- a run starts at second j, behind one of another gear
    open_next : (j : ℕ) (row' : List ℕ) → j < n → stop_at trace j ≡ false → stop (former_of trace j) ≡ false → (g j ≡ before_of g j → ⊥) → over_at j ≡ false
        → Left trace n goal row' j → Rows j row' → State (suc j)
    open_next zero row' l drive moving other over turns rows = absurd (false≢true (sym moving))
    open_next (suc i) row' l drive moving other over turns rows =
        let j = suc i in
        let q : p (suc j) ≡ opened (g i) (flags_at trace j) =
        p-next j ∙ after-opens (p j) (flags_at trace j) (g j) (flags_at trace i) (g i) drive moving other over in
        let count : (p (suc j)).count ≡ 1 = ap (λ (q : Pending). q.count) q in
        let left : (p (suc j)).left ≡ g i = ap (λ (q : Pending). q.left) q in
        let marked : has_mark (p (suc j)) ≡ no_first_at trace j = ap has_mark q ∙ mark-of (no_first_at trace j) in
        let none : j + 0 ≡ j = omega arith in
        let less : suc i - 1 ≡ i = omega arith in
        waits row' j (record {
          turns = turns;
          rows = rows_on j row' l (reach-none (p j) (flags_at trace j) (g j) over) rows;
          some = omega arith;
          here = omega arith;
          one = omega arith;
          few = omega arith;
          calm = ap (stop_at trace) less ∙ moving;
          left = ap (gear_at row') less ∙ rows.drives i (omega arith) moving ∙ known-new g reach_at i ∙ sym left;
          other = λ e. other (sym e ∙ left);
          moving = drive;
          run = λ k from to.
              let here : k ≡ j = omega arith in
              (ap (stop_at trace) here ∙ drive, ap (gear_at row') here ∙ row_here j row' l drive rows);
          marks = marked ∙ sym (one_more trace j 0 ∙ ap (no_first_at trace) none) ∙ ap (has_no_first trace j) (sym count);
        })

    -- ---- nothing is pending
    settled-next : (j : ℕ) (row' : List ℕ) (next : ℕ) → j < n → Settled j row' next → State (suc j)
    settled-next j row' next l s = go (dec_lt j next) (stop_at trace j) (stop (former_of trace j)) refl refl
      where
        over : over_at j ≡ false
        over = over_none (p j) (flags_at trace j) (g j) s.none

        go : Dec (j < next) → (b c : Bool) → stop_at trace j ≡ b → stop (former_of trace j) ≡ c → State (suc j)
        go (yes below) b c e f =
            let at = s.inside j (omega arith) below in
            let is : g j ≡ before_of g j = sym (row_here j row' l at.0 s.rows) ∙ at.1 in
            settled row' next (record {
              turns = s.turns;
              rows = rows_on j row' l (reach-none (p j) (flags_at trace j) (g j) over) s.rows;
              none = ap (λ (q : Pending). q.count)
                  (p-next j ∙ stays_on (p j) (former_of trace j) (before_of g j) (flags_at trace j) (g j) s.none at.0 (s.moving below) is);
              low = omega arith;
              high = s.high;
              moving = λ further. at.0;
              inside = λ k from to.
                  let t = s.inside k (omega arith) to in
                  (t.0, t.1 ∙ sym is);
              ends = λ room moving. ap (λ (gear : ℕ). goes_on trace row' gear next) is ∙ s.ends room (s.moving below);
            })
        go (no above) true c e f =
            let low = s.low in
            let here : next ≡ j = omega arith in
            halt-next j row' l e (subst (Left trace n goal row') here s.turns) s.rows
        go (no above) false true e f =
            let low = s.low in
            let here : next ≡ j = omega arith in
            begin-next j row' l e f over (subst (Left trace n goal row') here s.turns) s.rows
        go (no above) false false e f =
            let low = s.low in
            let here : next ≡ j = omega arith in
            let ends : goes_on trace row' (before_of g j) j ≡ false = ap (goes_on trace row' (before_of g j)) (sym here) ∙ s.ends (omega arith) f in
            open_next j row' l e f (λ (is : g j ≡ before_of g j). other-gear trace row' (before_of g j) j ends e (row_here j row' l e s.rows ∙ is)) over
            (subst (Left trace n goal row') here s.turns) s.rows

    -- ---- a run is pending
    module _ (j : ℕ) (row' : List ℕ) (start : ℕ) (h : j ≤ n) (w : Waits j row' start) where
      before-end : start < j
      before-end =
          let here = w.here in
          let one = w.one in
          omega arith

      started : (stop_at trace start ≡ false) × (gear_at row' start ≡ before_of g j)
      started = w.run start (omega arith) before-end

      goes : (i : ℕ) → start + 1 ≤ i → i < j → goes_on trace row' (gear_at row' start) i ≡ true
      goes i from to =
          let r = w.run i (omega arith) to in
          goes_by trace row' (gear_at row' start) i r.0 (r.1 ∙ sym started.1)

      ended : (j < n → goes_on trace row' (before_of g j) j ≡ false) → end_at trace row' n start ≡ j
      ended out =
          let more = before-end in
          ends_at (goes_on trace row' (gear_at row' start)) n (start + 1) (end_at trace row' n start) j (run_ends row' start (omega arith)) (omega arith) h goes
          (λ l. ap (λ (gear : ℕ). goes_on trace row' gear j) started.1 ∙ out l)

      kept : end_at trace row' n start ≡ j → takes trace row' n start j ≡ false → Left trace n goal row' j
      kept end e =
          let more = before-end in
          left-turn trace n goal row' start w.turns (omega arith) row' j (turn-stays trace row' n start j started.0 (sym end) e before-end h)

    -- it goes on
    longer-next : (j : ℕ) (row' : List ℕ) (start : ℕ) → j < n → Waits j row' start → stop_at trace j ≡ false → g j ≡ before_of g j → State (suc j)
    longer-next j row' start l w drive is = go (dec_lt (p j).count 4)
      where
        over : over_at j ≡ false
        over = over-other (p j) (flags_at trace j) (g j) (λ (e : (p j).left ≡ g j). w.other (e ∙ is))

        q : p (suc j) ≡ longer (p j) (flags_at trace j)
        q = p-next j ∙ after-goes (p j) (flags_at trace j) (g j) (former_of trace j) (before_of g j) drive w.moving is

        rows : Rows (suc j) row'
        rows = rows_on j row' l (reach-none (p j) (flags_at trace j) (g j) over) w.rows

        at : gear_at row' j ≡ g j
        at = row_here j row' l drive w.rows

        run : (k : ℕ) → start ≤ k → k < suc j → Dec (k < j) → (stop_at trace k ≡ false) × (gear_at row' k ≡ g j)
        run k from to (yes below) =
            let r = w.run k from below in
            (r.0, r.1 ∙ sym is)
        run k from to (no above) =
            let here : k ≡ j = omega arith in
            (ap (stop_at trace) here ∙ drive, ap (gear_at row') here ∙ at)

        go : Dec ((p j).count < 4) → State (suc j)
        go (yes less) =
            let q' = q ∙ longer-more (p j) (flags_at trace j) w.one less in
            let count : (p (suc j)).count ≡ (p j).count + 1 = ap (λ (q : Pending). q.count) q' in
            let left : (p (suc j)).left ≡ (p j).left = ap (λ (q : Pending). q.left) q' in
            let here = w.here in
            waits row' start (record {
              turns = w.turns;
              rows = rows;
              some = w.some;
              here = omega arith;
              one = omega arith;
              few = omega arith;
              calm = w.calm;
              left = w.left ∙ sym left;
              other = λ e. w.other (sym left ∙ e ∙ is);
              moving = drive;
              run = λ k from to. run k from to (dec_lt k j);
              marks = ap has_mark q'
                  ∙ mark-of (has_mark (p j) || no_first_at trace j)
                  ∙ (λ i. w.marks i || no_first_at trace (sym here i))
                  ∙ sym (one_more trace start (p j).count)
                  ∙ ap (has_no_first trace start) (sym (count ∙ add-one (p j).count));
            })
        go (no full) =
            let here = w.here in
            let more = before-end j row' start (omega arith) w in
            let ends = run_ends row' start (omega arith) in
            let same-gear : gear_at row' start ≡ g j = (started j row' start (omega arith) w).1 ∙ sym is in
            let past : suc j ≤ end_at trace row' n start =
            ends_low (goes_on trace row' (gear_at row' start)) n (start + 1) (end_at trace row' n start) (suc j) ends l
            (λ i from to.
            let r = run i (omega arith) to (dec_lt i j) in
            goes_by trace row' (gear_at row' start) i r.0 (r.1 ∙ sym same-gear)) in
            settle j row' start (omega arith) l drive same-gear
            (left-turn trace n goal row' start w.turns (omega arith) row' (end_at trace row' n start)
            (turn-stays trace row' n start (end_at trace row' n start) (started j row' start (omega arith) w).0 refl
            (takes-long trace row' n start (end_at trace row' n start) (omega arith)) (omega arith) ends.high))
            past rows
            (ap (λ (q : Pending). q.count) (q ∙ longer-full (p j) (flags_at trace j) (omega arith)))

    -- it takes the gear of second j
    module _ (j : ℕ) (row' : List ℕ) (start : ℕ) (l : j < n) (w : Waits j row' start) (drive : stop_at trace j ≡ false) where
      at-end : gear_at row' j ≡ g j
      at-end = row_here j row' l drive w.rows

      count-is : j - start ≡ (p j).count
      count-is =
          let here = w.here in
          omega arith

      -- the whole row's loop and the live engine judge the run alike
      takes-over : takes trace row' n start j ≡ over_at j
      takes-over =
          let here = w.here in
          let few = w.few in
          let some = w.some in
          let left = w.left in
          let marks : has_no_first trace start (j - start) ≡ has_mark (p j) = ap (has_no_first trace start) count-is ∙ sym w.marks in
          takes-is trace row' n start j (λ (e : start ≡ 0). omega arith) l w.calm drive (omega arith)
          ∙ (λ i. eqb (left i) (at-end i) && not (eqb (at-end i) 1 && marks i))
          ∙ sym (over-is (p j) (flags_at trace j) (g j) w.one drive)

      abbrev merged : List ℕ
      merged = filled row' start (gear_at row' j) (j - start)

      merged-at : gear_at merged j ≡ g j
      merged-at =
          let here = w.here in
          fill-behind row' start (gear_at row' j) (j - start) j (omega arith) ∙ at-end

      merged-rows : over_at j ≡ true → Rows (suc j) merged
      merged-rows over = record {
        room = omega (arith, fill-length row' start (gear_at row' j) (j - start), w.rows.room);
        drives = λ k h drives. by k h drives (dec_lt k start) (dec_lt k j);
        halts = λ k h halt. stood k h halt (dec_lt k start) (dec_lt k j);
        coming = λ k h. let here = w.here in fill-behind row' start (gear_at row' j) (j - start) k (omega arith) ∙ w.rows.coming k (omega arith);
      }
        where
          all : reach_at j ≡ (p j).count
          all = reach-all (p j) (flags_at trace j) (g j) over

          by : (k : ℕ) → k < suc j → stop_at trace k ≡ false → Dec (k < start) → Dec (k < j) → gear_at merged k ≡ known g reach_at (suc j) k
          by k h drives (yes left) d =
              let here = w.here in
              fill-before row' start (gear_at row' j) (j - start) k left
              ∙ w.rows.drives k (omega arith) drives
              ∙ sym (known-old g reach_at j k (omega (arith, all)))
          by k h drives (no right) (yes below) =
              let here = w.here in
              let room = w.rows.room in
              fill-in row' start (gear_at row' j) (j - start) k (omega arith) (omega arith) (omega arith)
              ∙ at-end
              ∙ sym (known_in g reach_at j k (omega (arith, all)))
          by k h drives (no right) (no above) =
              let is : k ≡ j = omega arith in
              ap (gear_at merged) is ∙ merged-at ∙ sym (known_in g reach_at j k (omega arith))

          stood : (k : ℕ) → k < suc j → stop_at trace k ≡ true → Dec (k < start) → Dec (k < j)
              → (gear_at merged k ≡ gear_at row k) × (known g reach_at (suc j) k ≡ g k)
          stood k h halt (yes left) d =
              let here = w.here in
              let was = w.rows.halts k (omega arith) halt in
              (fill-before row' start (gear_at row' j) (j - start) k left ∙ was.0, known-old g reach_at j k (omega (arith, all)) ∙ was.1)
          stood k h halt (no right) (yes below) = absurd (false≢true (sym (w.run k (omega arith) below).0 ∙ halt))
          stood k h halt (no right) (no above) =
              let is : k ≡ j = omega arith in
              absurd (false≢true (sym drive ∙ ap (stop_at trace) (sym is) ∙ halt))

      taken_next : (g j ≡ before_of g j → ⊥) → end_at trace row' n start ≡ j → over_at j ≡ true → State (suc j)
      taken_next other end over =
          let more = before-end j row' start (omega arith) w in
          let ends = run_ends merged j l in
          let low = ends.low in
          settle j merged j (omega arith) l drive merged-at
          (left-turn trace n goal row' start w.turns (omega arith) merged (end_at trace merged n j)
          (turn-takes trace row' n start j (started j row' start (omega arith) w).0 (sym end) (takes-over ∙ over) merged refl
          (end_at trace merged n j) refl (omega arith) ends.high))
          (omega arith) (merged-rows over)
          (ap (λ (q : Pending). q.count)
          (p-next j ∙ after-takes (p j) (flags_at trace j) (g j) (former_of trace j) (before_of g j) drive w.moving other over))

      -- it ends at second j
      ended-next : (g j ≡ before_of g j → ⊥) → State (suc j)
      ended-next other = go (over_at j) refl
        where
          end : end_at trace row' n start ≡ j
          end = ended j row' start (omega arith) w (λ room. ends-by-gear trace row' (before_of g j) j (λ (e : gear_at row' j ≡ before_of g j). other (sym at-end ∙ e)))

          go : (b : Bool) → over_at j ≡ b → State (suc j)
          go true over = taken_next other end over
          go false over = open_next j row' l drive w.moving other over (kept j row' start (omega arith) w end (takes-over ∙ over)) w.rows

    waits-next : (j : ℕ) (row' : List ℕ) (start : ℕ) → j < n → Waits j row' start → State (suc j)
    waits-next j row' start l w = go (stop_at trace j) (eqb (g j) (before_of g j)) refl refl
      where
        go : (b c : Bool) → stop_at trace j ≡ b → eqb (g j) (before_of g j) ≡ c → State (suc j)
        go true c halt e =
            halt-next j row' l halt
            (kept j row' start (omega arith) w (ended j row' start (omega arith) w (λ room. ends-by-stop trace row' (before_of g j) j halt))
            (takes-before-stop trace row' n start j halt))
            w.rows
        go false true drive e = longer-next j row' start l w drive (eqb-true (g j) (before_of g j) e)
        go false false drive e = ended-next j row' start l w drive (eqb-false (g j) (before_of g j) e)

    -- ---- all seconds
    states : (j : ℕ) → j ≤ n → State j
    states zero h = settled row 0 (record {
      turns = left-start trace n row;
      rows = record {
        room = long;
        drives = λ k l drive. absurd (let z : ⊥ = omega arith in z);
        halts = λ k l halt. absurd (let z : ⊥ = omega arith in z);
        coming = λ k l. refl;
      };
      none = p-start;
      low = omega arith;
      high = omega arith;
      moving = λ below. absurd (let z : ⊥ = omega arith in z);
      inside = λ k from to. absurd (let z : ⊥ = omega arith in z);
      ends = λ room moving. absurd (false≢true (sym moving));
    })
    states (suc j) h = go (states j (omega arith))
      where
        go : State j → State (suc j)
        go (settled row' next s) = settled-next j row' next (omega arith) s
        go (waits row' start w) = waits-next j row' start (omega arith) w

    -- the end of the trace
    finished : State n → Rows n goal
    finished (settled row' next s) = subst (Rows n) (left_end trace n goal row' next s.turns s.low) s.rows
    finished (waits row' start w) =
        let end = ended n row' start (omega arith) w (λ room. absurd (let z : ⊥ = omega arith in z)) in
        subst (Rows n)
        (left_end trace n goal row' n (kept n row' start (omega arith) w end (takes-last trace row' n start n (omega arith))) (omega arith))
        w.rows

    pub smoothed-rows : Rows n (smoothed trace row n)
    unfolding smoothed
    smoothed-rows = finished (states n (omega arith))
