-- What the live engine gives is the row of the whole trace, two bytes a second, five seconds behind; and the first part of the row of every trace that
-- begins with the seconds received. Assumes nothing.
use mathlib.Core.Path.{◌≡◌, refl, sym, ap, ◌∙◌}
use mathlib.Core.Bool.{Bool, true, false, cond, ◌&&◌, ◌||◌, false≢true}
use mathlib.Core.List.{List, [], ◌∷◌, ◌++◌, append-nil}
use Prim.Native.Nat.{ℕ, zero, suc, ◌+◌, ◌-◌, ◌*◌, ◌≤◌, ◌<◌, min}
use native.Mathlib.Decide.{dec_lt}
use native.Mathlib.Omega.{arith}
use borrow.Author.Tests.{ltb-true, ltb-false, lt-ltb, le-ltb}
use lib.Dec.{eqb, ltb}
use lib.ListN.{length, get_or, take}
use Rattle.walk.specs.Walk.{pairs}
use Rattle.house.specs.House.{flags_at, speed_at, stop, no_first, stop_at}
use Rattle.row.specs.Row.{gear_at}
use Rattle.vehicle.specs.declared.VehicleSheet.{VehicleSheet}
use Rattle.phase.specs.Phase.{stop_end, stop_gear, first_row}
use Rattle.phase.proofs.Stops.{first-length}
use Rattle.clutch.specs.Clutch.{clutch_of, clutch_by, with_clutch}
use Rattle.clutch.proofs.Clutch.{clutch-length, clutch-gear, clutch-at}
use Rattle.runs.specs.Corrected.{corrected}
use Rattle.runs.specs.Runs.{smoothed}
use Rattle.runs.proofs.Frame.{corrected-length}
use Rattle.live.specs.declared.Pending.{Pending}
use Rattle.live.specs.Live.{mark_of, has_mark, stays, opened, longer, takes_over, reach, pending_after, former_after, stops_after, step, given_gear, oldest, given, finish, state_at, given_to, live_row}
use Rattle.live.proofs.Causal.{gear_live, received_is, before_six, five-length, five-same}
use Rattle.walk.proofs.Ends.{Ends, search-ends, ends_low}
use Rattle.refusal.proofs.Ranges.{both}
use Rattle.live.proofs.Register.{known, known-stays, register, known-each}
use Rattle.live.proofs.Smoothing.{former_of, before_of, Rows, smoothed-rows}
use Rattle.walk.proofs.Pairs.{pairs-on, pairs-front, pairs-both, pairs-are}

-- ---- at most four seconds are pending
cond-few : (b : Bool) (p q : Pending) → p.count ≤ 4 → q.count ≤ 4 → (cond b p q).count ≤ 4
cond-few true p q h l = h
cond-few false p q h l = l

longer-few : (p : Pending) (flags : ℕ) → (longer p flags).count ≤ 4
unfolding longer
longer-few p flags = go (ltb 0 p.count && ltb p.count 4) refl
  where
    go : (b : Bool) → ltb 0 p.count && ltb p.count 4 ≡ b → (cond b (record { count = p.count + 1; left = p.left; marked = mark_of (has_mark p || no_first flags) }) stays).count ≤ 4
    go true e =
        let less = ltb-true p.count 4 (both (ltb 0 p.count) (ltb p.count 4) e).1 in
        omega arith
    go false e = omega arith

after-few : (p : Pending) (former before flags gear : ℕ) → (pending_after p former before flags gear).count ≤ 4
unfolding pending_after
after-few p former before flags gear =
    let ended = cond (takes_over p flags gear) stays (opened before flags) in
    let driven = cond (eqb gear before) (longer p flags) ended in
    cond-few (stop flags) stays (cond (stop former) stays driven) (omega arith)
    (cond-few (stop former) stays driven (omega arith)
    (cond-few (eqb gear before) (longer p flags) ended (longer-few p flags)
    (cond-few (takes_over p flags gear) stays (opened before flags) (omega arith) (omega arith))))

reach_few : (p : Pending) (flags gear : ℕ) → p.count ≤ 4 → reach p flags gear ≤ 4
unfolding reach
reach_few p flags gear h = go (takes_over p flags gear)
  where
    go : (b : Bool) → cond b p.count 0 ≤ 4
    go true = h
    go false = omega arith

-- ---- what is known of each second, when j have been received
module _ (own : ℕ → ℕ) (trace : List ℕ) where
  abbrev pending_at : ℕ → Pending
  pending_at j = (state_at own trace j).pending

  abbrev gear : ℕ → ℕ
  gear = gear_live own trace

  abbrev reaches : ℕ → ℕ
  reaches j = reach (pending_at j) (flags_at trace j) (gear j)

  pending_next : (j : ℕ) → pending_at (suc j) ≡ pending_after (pending_at j) (former_of trace j) (before_of gear j) (flags_at trace j) (gear j)
  unfolding step former_after
  pending_next zero = refl
  pending_next (suc j) = refl

  pending-few : (j : ℕ) → (pending_at j).count ≤ 4
  pending-few zero = omega arith
  pending-few (suc j) =
      let few = after-few (pending_at j) (former_of trace j) (before_of gear j) (flags_at trace j) (gear j) in
      let same = ap (λ (p : Pending). p.count) (pending_next j) in
      omega arith

  reaches-few : (j : ℕ) → reaches j ≤ 4
  reaches-few j = reach_few (pending_at j) (flags_at trace j) (gear j) (pending-few j)

  gears-are : (j a : ℕ) → a < 5 → a < j → get_or (state_at own trace j).gears a 0 ≡ known gear reaches j (j - (a + 1))
  unfolding step
  gears-are = register gear reaches (λ j. (state_at own trace j).gears) (λ j. refl)

  flags-are : (j a : ℕ) → a < 5 → a < j → get_or (state_at own trace j).flags a 0 ≡ flags_at trace (j - (a + 1))
  unfolding step
  flags-are j a l h =
      register (flags_at trace) (λ i. 0) (λ j. (state_at own trace j).flags) (λ j. refl) j a l h ∙ known-each (flags_at trace) j (j - (a + 1)) (omega arith)

  speeds-are : (j a : ℕ) → a < 5 → a < j → get_or (state_at own trace j).speeds a 0 ≡ speed_at trace (j - (a + 1))
  unfolding step
  speeds-are j a l h =
      register (speed_at trace) (λ i. 0) (λ j. (state_at own trace j).speeds) (λ j. refl) j a l h ∙ known-each (speed_at trace) j (j - (a + 1)) (omega arith)

  clutches-are : (v : VehicleSheet) (j a : ℕ) {gear gear' : ℕ} → a < 5 → a < j → gear ≡ gear'
      → clutch_of v (get_or (state_at own trace j).flags a 0) (get_or (state_at own trace j).speeds a 0) gear ≡ clutch_by v trace (j - (a + 1)) gear'
  clutches-are v j a l h same = (λ i. clutch_of v (flags-are j a l h i) (speeds-are j a l h i) (same i))

  -- ---- stop seconds in a row
  abbrev stops_at : ℕ → ℕ
  stops_at j = (state_at own trace j).stops

  stops-tell : (j m : ℕ) → m < stops_at j → (m < j) × (stop_at trace (j - (m + 1)) ≡ true)
  unfolding step stops_after
  stops-tell zero m h = absurd (omega arith)
  stops-tell (suc j) m h = go m (stop_at trace j) refl h (stops-tell j)
    where
      go : (m : ℕ) (b : Bool) → stop_at trace j ≡ b → m < cond b (min (stops_at j + 1) 6) 0
          → ((m : ℕ) → m < stops_at j → (m < j) × (stop_at trace (j - (m + 1)) ≡ true))
          → (m < suc j) × (stop_at trace (suc j - (m + 1)) ≡ true)
      go zero true e l earlier =
          let same : suc j - (0 + 1) ≡ j = omega arith in
          (omega arith, ap (stop_at trace) same ∙ e)
      go (suc m) true e l earlier =
          let was = earlier m (omega arith) in
          let below = was.0 in
          let same : suc j - (suc m + 1) ≡ j - (m + 1) = omega arith in
          (omega arith, ap (stop_at trace) same ∙ was.1)
      go m false e l earlier = absurd (omega arith)

  stops-from : (j c : ℕ) → c ≤ j → c ≤ 6 → ((i : ℕ) → j - c ≤ i → i < j → stop_at trace i ≡ true) → c ≤ stops_at j
  unfolding step stops_after
  stops-from zero c h six all = omega arith
  stops-from (suc j) zero h six all = omega arith
  stops-from (suc j) (suc c) h six all = go (stop_at trace j) (all j (omega arith) (omega arith)) (stops-from j c (omega arith) (omega arith) (λ i l m. all i (omega arith) (omega arith)))
    where
      go : (b : Bool) → b ≡ true → c ≤ stops_at j → suc c ≤ cond b (min (stops_at j + 1) 6) 0
      go true e was = omega arith
      go false e was = absurd (false≢true e)

  -- ---- of n seconds
  module _ (n : ℕ) where
    -- the gear in the finished row
    abbrev final : ℕ → ℕ
    final k = gear_at (smoothed trace (before_six own trace n) n) k

    rows-room : 2 * n ≤ length (before_six own trace n)
    rows-room = omega (arith, five-length own trace n)

    rows : Rows trace gear pending_at (before_six own trace n) n rows-room (λ k l. (five-same own trace n k l).drives) refl pending_next n
        (smoothed trace (before_six own trace n) n)
    rows = smoothed-rows trace gear pending_at (before_six own trace n) n rows-room (λ k l. (five-same own trace n k l).drives) refl pending_next

    final-drives : (k : ℕ) → k < n → stop_at trace k ≡ false → final k ≡ known gear reaches n k
    final-drives k l drive = rows.drives k l drive

    final-halts : (k : ℕ) → k < n → stop_at trace k ≡ true → (final k ≡ stop_gear (stop_end trace n k - k)) × (known gear reaches n k ≡ 1)
    final-halts k l halt =
        let same = (five-same own trace n k l).halts halt in
        let kept = rows.halts k l halt in
        (kept.0 ∙ same.0, kept.1 ∙ same.1)

    stop-ends : (k : ℕ) → k < n → Ends (stop_at trace) n k (stop_end trace n k)
    stop-ends k l = search-ends (stop_at trace) n k (n - k) (omega arith)

    late : (left : ℕ) → left ≤ 5 → stop_gear left ≡ 1
    late left h = rw (le-ltb 5 left h)

    early : (left : ℕ) → 5 < left → stop_gear left ≡ 0
    early left h = rw (lt-ltb 5 left h)

    -- ---- the second that the call of second j gives
    module _ (j : ℕ) (l : j < n) (h : 5 ≤ j) where
      lasts : known gear reaches j (j - 5) ≡ known gear reaches n (j - 5)
      lasts = known-stays gear reaches reaches-few j n (j - 5) (omega arith) (omega arith)

      driven : stop_at trace (j - 5) ≡ false → (b : Bool) → ltb 5 (stops_at (suc j)) ≡ b → cond b 0 (known gear reaches j (j - 5)) ≡ final (j - 5)
      driven drive true e =
          let same : suc j - (5 + 1) ≡ j - 5 = omega arith in
          absurd (false≢true (sym drive ∙ ap (stop_at trace) (sym same) ∙ (stops-tell (suc j) 5 (ltb-true 5 (stops_at (suc j)) e)).1))
      driven drive false e = lasts ∙ sym (final-drives (j - 5) (omega arith) drive)

      halted : stop_at trace (j - 5) ≡ true → (b : Bool) → ltb 5 (stops_at (suc j)) ≡ b → cond b 0 (known gear reaches j (j - 5)) ≡ final (j - 5)
      halted halt true e =
          let six = ltb-true 5 (stops_at (suc j)) e in
          let ends = stop-ends (j - 5) (omega arith) in
          let far : j + 1 ≤ stop_end trace n (j - 5) =
          ends_low (stop_at trace) n (j - 5) (stop_end trace n (j - 5)) (j + 1) ends (omega arith)
          (λ i from to.
          let same : i ≡ suc j - (j - i + 1) = omega arith in
          ap (stop_at trace) same ∙ (stops-tell (suc j) (j - i) (omega (arith, six))).1) in
          sym ((final-halts (j - 5) (omega arith) halt).0 ∙ early (stop_end trace n (j - 5) - (j - 5)) (omega arith))
      halted halt false e =
          let five = ltb-false 5 (stops_at (suc j)) e in
          let ends = stop-ends (j - 5) (omega arith) in
          let was = final-halts (j - 5) (omega arith) halt in
          lasts ∙ was.1 ∙ sym (was.0 ∙ late (stop_end trace n (j - 5) - (j - 5)) (near (dec_lt j (stop_end trace n (j - 5))) five ends))
        where
          near : Dec (j < stop_end trace n (j - 5)) → stops_at (suc j) ≤ 5 → Ends (stop_at trace) n (j - 5) (stop_end trace n (j - 5))
              → stop_end trace n (j - 5) - (j - 5) ≤ 5
          near (yes past) five ends =
              let six : 6 ≤ stops_at (suc j) = stops-from (suc j) 6 (omega arith) (omega arith) (λ i from to. ends.inside i (omega arith) (omega arith)) in
              absurd (let z : ⊥ = omega arith in z)
          near (no short) five ends = omega arith

      given-gear : given_gear (stops_at (suc j)) (known gear reaches j (j - 5)) ≡ final (j - 5)
      given-gear = go (stop_at trace (j - 5)) refl
        where
          go : (b : Bool) → stop_at trace (j - 5) ≡ b → given_gear (stops_at (suc j)) (known gear reaches j (j - 5)) ≡ final (j - 5)
          go true halt = halted halt (ltb 5 (stops_at (suc j))) refl
          go false drive = driven drive (ltb 5 (stops_at (suc j))) refl

    -- ---- with the clutch of a vehicle
    module _ (v : VehicleSheet) where
      abbrev clutch : ℕ → ℕ
      clutch k = clutch_by v trace k (final k)

      -- all that has been given when j seconds have been received: all but the last five of them
      given-rows : (j : ℕ) → j ≤ n → given_to v own trace j ≡ pairs final clutch (j - 5)
      unfolding given_to given step
      given-rows zero h = refl
      given-rows (suc j) h = ap (λ (l : List ℕ). l ++ given v (state_at own trace j) (flags_at trace j)) (given-rows j (omega arith)) ∙ go (dec_lt j 5)
        where
          go : Dec (j < 5) → pairs final clutch (j - 5) ++ given v (state_at own trace j) (flags_at trace j) ≡ pairs final clutch (suc j - 5)
          go (yes few) =
              let received = received_is own trace j in
              let same : j - 5 ≡ suc j - 5 = omega arith in
              rw (lt-ltb (state_at own trace j).received 5 (omega arith)) (append-nil (pairs final clutch (j - 5)) ∙ ap (pairs final clutch) same)
          go (no more) =
              let received = received_is own trace j in
              let same : suc (j - 5) ≡ suc j - 5 = omega arith in
              let gear-is : oldest (state_at own trace j) (flags_at trace j) ≡ final (j - 5) =
              ap (given_gear (stops_at (suc j))) (gears-are j 4 (omega arith) (omega arith)) ∙ given-gear j (omega arith) (omega arith) in
              let clutch-is = clutches-are v j 4 (omega arith) (omega arith) gear-is in
              rw (le-ltb (state_at own trace j).received 5 (omega arith))
              ((λ i. pairs final clutch (j - 5) ++ (gear-is i ∷ clutch-is i ∷ [])) ∙ ap (pairs final clutch) same)

      -- ---- what the end gives: the last five
      last-gear : (k : ℕ) → k < n → n ≤ k + 5 → known gear reaches n k ≡ final k
      last-gear k l h = go (stop_at trace k) refl
        where
          go : (b : Bool) → stop_at trace k ≡ b → known gear reaches n k ≡ final k
          go true halt =
              let was = final-halts k l halt in
              let high = (stop-ends k l).high in
              was.1 ∙ sym (was.0 ∙ late (stop_end trace n k - k) (omega arith))
          go false drive = sym (final-drives k l drive)

      finish-rows : finish v (state_at own trace n) ≡ pairs (λ i. final (n - 5 + i)) (λ i. clutch (n - 5 + i)) (min n 5)
      unfolding finish
      finish-rows =
          let s = state_at own trace n in
          let at : ℕ → ℕ → ℕ = λ m i. min m 5 - (i + 1) in
          let gear-is : (i : ℕ) → i < min n 5 → get_or s.gears (at n i) 0 ≡ final (n - 5 + i) = λ i l.
          let same : n - (min n 5 - (i + 1) + 1) ≡ n - 5 + i = omega arith in
          gears-are n (min n 5 - (i + 1)) (omega arith) (omega arith)
          ∙ ap (known gear reaches n) same
          ∙ last-gear (n - 5 + i) (omega arith) (omega arith) in
          ap (λ (m : ℕ). pairs (λ i. get_or s.gears (at m i) 0) (λ i. clutch_of v (get_or s.flags (at m i) 0) (get_or s.speeds (at m i) 0) (get_or s.gears (at m i) 0)) (min m 5)) (received_is own trace n)
          ∙ pairs-both (λ i. get_or s.gears (at n i) 0) (λ i. final (n - 5 + i))
          (λ i. clutch_of v (get_or s.flags (at n i) 0) (get_or s.speeds (at n i) 0) (get_or s.gears (at n i) 0)) (λ i. clutch (n - 5 + i)) (min n 5)
          gear-is
          (λ i l.
          let same : n - (min n 5 - (i + 1) + 1) ≡ n - 5 + i = omega arith in
          clutches-are v n (min n 5 - (i + 1)) (omega arith) (omega arith) (gear-is i l) ∙ ap (λ (k : ℕ). clutch_by v trace k (final (n - 5 + i))) same)

      live-pairs : live_row v own trace n ≡ pairs final clutch n
      live-pairs =
          let same : n - 5 + min n 5 ≡ n = omega arith in
          (λ i. given-rows n (omega arith) i ++ finish-rows i) ∙ pairs-on final clutch (n - 5) (min n 5) ∙ ap (pairs final clutch) same

      -- ---- the whole row
      abbrev whole : List ℕ
      whole = with_clutch (clutch_by v trace) (corrected trace (first_row own trace n) n) n

      whole-pairs : whole ≡ pairs final clutch n
      whole-pairs =
          let rule = clutch_by v trace in
          let row = corrected trace (first_row own trace n) n in
          let long : length row ≡ 2 * n = corrected-length trace (first_row own trace n) n ∙ first-length own trace n in
          pairs-are final clutch whole n
          (clutch-length rule row n ∙ long)
          (λ k l. clutch-gear rule row n k)
          (λ k l. clutch-at rule row n k l (omega (arith, long)) ∙ ap (rule k) (clutch-gear rule row n k))

      -- 02, M-110: "For every trace and vehicle its row equals the present one."
      pub live-whole : live_row v own trace n ≡ with_clutch (clutch_by v trace) (corrected trace (first_row own trace n) n) n
      live-whole = live-pairs ∙ sym whole-pairs

      -- after j of the n seconds: the first part of the row, without the last five seconds received
      pub given-front : (j : ℕ) → j ≤ n → given_to v own trace j ≡ take (2 * (j - 5)) (with_clutch (clutch_by v trace) (corrected trace (first_row own trace n) n) n)
      given-front j h =
          let same : j - 5 + (n - (j - 5)) ≡ n = omega arith in
          given-rows j h
          ∙ sym (ap (take (2 * (j - 5))) (whole-pairs ∙ ap (pairs final clutch) (sym same)) ∙ pairs-front final clutch (j - 5) (n - (j - 5)))

-- ---- another trace that begins with the same seconds
pub record Begins (own own' : ℕ → ℕ) (trace trace' : List ℕ) (j : ℕ) : Type 0 where
  pub gears : (k : ℕ) → k < j → own k ≡ own' k
  pub flags : (k : ℕ) → k < j → flags_at trace k ≡ flags_at trace' k
  pub speeds : (k : ℕ) → k < j → speed_at trace k ≡ speed_at trace' k

module _ (v : VehicleSheet) (own own' : ℕ → ℕ) (trace trace' : List ℕ) where
  earlier : (j : ℕ) → Begins own own' trace trace' (suc j) → Begins own own' trace trace' j
  earlier j b = record {
    gears = λ k l. b.gears k (omega arith);
    flags = λ k l. b.flags k (omega arith);
    speeds = λ k l. b.speeds k (omega arith);
  }

  -- the engine has seen nothing else
  pub state-same : (j : ℕ) → Begins own own' trace trace' j → state_at own trace j ≡ state_at own' trace' j
  state-same zero b = refl
  state-same (suc j) b =
      let before = state-same j (earlier j b) in
      let gear = b.gears j (omega arith) in
      let flags = b.flags j (omega arith) in
      let speed = b.speeds j (omega arith) in
      (λ i. step (before i) (speed i) (flags i) (gear i))

  pub given-same : (j : ℕ) → Begins own own' trace trace' j → given_to v own trace j ≡ given_to v own' trace' j
  unfolding given_to
  given-same zero b = refl
  given-same (suc j) b =
      let before = given-same j (earlier j b) in
      let state = state-same j (earlier j b) in
      let flags = b.flags j (omega arith) in
      (λ i. before i ++ given v (state i) (flags i))

  -- 02, M-110: "those equal the start of the row of every accepted trace that begins with the seconds received"
  pub given-begins : (j n : ℕ) → j ≤ n → Begins own own' trace trace' j
      → given_to v own trace j ≡ take (2 * (j - 5)) (with_clutch (clutch_by v trace') (corrected trace' (first_row own' trace' n) n) n)
  given-begins j n h b = given-same j b ∙ given-front own' trace' n v j h
