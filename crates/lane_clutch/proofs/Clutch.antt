-- What the tables say of a lane's gear is what M-100 says of its engine, and second by second each lane gets its clutch. Assumes nothing.
use mathlib.Core.Path.{◌≡◌, refl, sym, ap, ◌∙◌}
use mathlib.Core.Bool.{Bool, true, false, not, cond, ◌&&◌, ◌||◌}
use mathlib.Core.List.{List}
use Prim.Native.Nat.{ℕ, zero, suc, ◌+◌, ◌-◌, ◌*◌, ◌%◌, ◌<◌, ◌≤◌}
use native.Mathlib.Decide.{dec_lt, ℕ_discrete}
use native.Mathlib.Omega.{arith}
use borrow.Author.Tests.{eq-eqb, ne_eqb, le-ltb, le-leb, lt-leb, ltb-true, ltb-false}
use lib.Dec.{eqb, leb, ltb}
use lib.ListN.{length}
use Rattle.house.specs.House.{flags_at, speed_at, stop}
use Rattle.vehicle.specs.declared.VehicleSheet.{VehicleSheet}
use Rattle.vehicle.specs.Sheet.{ndv_at, Sound}
use Rattle.vehicle.specs.Engine.{lowest_engine_speed, below_lowest}
use Rattle.shift.specs.Speeds.{count}
use Rattle.tenths.specs.Least.{not_below}
use Rattle.tenths.proofs.Comparing.{lowest-by-tenths}
use Rattle.row.specs.Row.{gear_at}
use Rattle.clutch.specs.Clutch.{clutch_of, clutch_by}
use Rattle.lanes.specs.Lanes.{lane_at, line_by, Holds}
use Rattle.lanes.proofs.Lanes.{line-length, line_other, line_at}
use Rattle.refusal.specs.Ranges.{within}
use Rattle.lane_clutch.specs.Clutch.{limit_of, LimitsOf, drives_lane, clutched, clutch_line, Tops, Geared, Clutches}

-- ---- of the places that are one alone, its own counts
one_none : (f : ℕ → Bool) (gear n : ℕ) → n < gear → count (λ i. eqb gear (i + 1) && f i) n ≡ 0
one_none f gear zero h = refl
one_none f gear (suc n) h =
    let other : eqb gear (n + 1) ≡ false = ne_eqb gear (n + 1) (λ (e : gear ≡ n + 1). omega arith) in
    (λ i. one_none f gear n (omega arith) i + cond (other i && f n) 1 0)

one-counts : (f : ℕ → Bool) (gear n : ℕ) → gear < n → count (λ i. eqb (gear + 1) (i + 1) && f i) n ≡ cond (f gear) 1 0
one-counts f gear zero h = absurd (omega arith)
one-counts f gear (suc n) h = go (ℕ_discrete gear n) (one-counts f gear n)
  where
    plus_none : (n : ℕ) → n + 0 ≡ n
    plus_none n = omega arith

    none-plus : (n : ℕ) → 0 + n ≡ n
    none-plus n = omega arith

    go : Dec (gear ≡ n) → (gear < n → count (λ i. eqb (gear + 1) (i + 1) && f i) n ≡ cond (f gear) 1 0)
        → count (λ i. eqb (gear + 1) (i + 1) && f i) n + cond (eqb (gear + 1) (n + 1) && f n) 1 0 ≡ cond (f gear) 1 0
    go (yes e) before =
        let own : eqb (gear + 1) (n + 1) ≡ true = eq-eqb (gear + 1) (n + 1) (omega arith) in
        (λ i. one_none f (gear + 1) n (omega arith) i + cond (own i && f n) 1 0) ∙ none-plus (cond (f n) 1 0) ∙ ap (λ (i : ℕ). cond (f i) 1 0) (sym e)
    go (no e) before =
        let other : eqb (gear + 1) (n + 1) ≡ false = ne_eqb (gear + 1) (n + 1) (λ (z : gear + 1 ≡ n + 1). e (omega arith)) in
        let known = before (let less : gear < n = omega arith in less) in
        (λ i. known i + cond (other i && f n) 1 0) ∙ plus_none (cond (f gear) 1 0)

-- ---- a gear that the vehicle has
module _ (v : VehicleSheet) (sound : Sound v) (gear : ℕ) (low : 1 ≤ gear) (high : gear ≤ v.gears) (speed : ℕ) where
  has-eight : v.gears ≤ 8
  has-eight = sound.ranged.gears.1

  pub below-by-limit : ltb speed (limit_of v gear) ≡ below_lowest v gear speed
  unfolding below_lowest
  below-by-limit =
      let few = has-eight in
      let ratio = (sound.ndv (gear - 1) (omega arith)).0 in
      let has : ltb v.gears gear ≡ false = le-ltb v.gears gear high in
      let in-eight : within 1 8 gear ≡ true = (λ i. le-leb 1 gear low i && le-leb gear 8 (omega arith) i) in
      ap (λ (b : Bool). ltb speed (cond b 0 (not_below (lowest_engine_speed v) (ndv_at v.ndv (gear - 1))))) has
      ∙ lowest-by-tenths speed (lowest_engine_speed v) (ndv_at v.ndv (gear - 1)) (omega arith)
      ∙ ap (λ (b : Bool). ltb (speed * cond b (ndv_at v.ndv (gear - 1)) 0) (lowest_engine_speed v)) (sym in-eight)

  module _ (tables : List ℕ) (j : ℕ) (limits : LimitsOf v tables j) where
    limit_is : lane_at tables j (gear + 8) ≡ limit_of v gear
    limit_is = let few = has-eight in limits.limits gear low (omega arith)

    -- the limit is reached, or the engine is too slow
    not-reached : leb (limit_of v gear) speed ≡ not (ltb speed (limit_of v gear))
    not-reached = go (ltb speed (limit_of v gear)) refl
      where
        go : (b : Bool) → ltb speed (limit_of v gear) ≡ b → leb (limit_of v gear) speed ≡ not b
        go true e = let less = ltb-true speed (limit_of v gear) e in lt-leb (limit_of v gear) speed less
        go false e = let more = ltb-false speed (limit_of v gear) e in le-leb (limit_of v gear) speed more

    drives-is : drives_lane tables speed gear j 8 ≡ cond (leb (limit_of v gear) speed) 1 0
    drives-is =
        let few = has-eight in
        let back : gear - 1 + 1 ≡ gear = omega arith in
        let line : gear - 1 + 9 ≡ gear + 8 = omega arith in
        ap (λ (g : ℕ). count (λ i. eqb g (i + 1) && leb (lane_at tables j (i + 9)) speed) 8) (sym back)
        ∙ one-counts (λ i. leb (lane_at tables j (i + 9)) speed) (gear - 1) 8 (omega arith)
        ∙ ap (λ (k : ℕ). cond (leb (lane_at tables j k) speed) 1 0) line
        ∙ ap (λ (limit : ℕ). cond (leb limit speed) 1 0) limit_is

    pub slow-is : eqb (drives_lane tables speed gear j 8) 0 ≡ below_lowest v gear speed
    slow-is = ap (λ (n : ℕ). eqb n 0) (drives-is ∙ ap (λ (b : Bool). cond b 1 0) not-reached) ∙ go (ltb speed (limit_of v gear)) ∙ below-by-limit
      where
        go : (b : Bool) → eqb (cond (not b) 1 0) 0 ≡ b
        go true = refl
        go false = refl

    pub fast : j < 16 → (top : ℕ) → Tops tables 272 top → top ≤ speed → below_lowest v gear speed ≡ false
    fast l top tops over =
        let few = has-eight in
        let under = tops.tops (16 * (gear + 8) + j) (omega arith) (omega arith) in
        sym below-by-limit ∙ le-ltb speed (limit_of v gear) (omega (arith, limit_is, under))

-- ---- second by second
small : (gear : ℕ) → gear ≤ 8 → gear % 128 ≡ gear
small gear h = omega arith

module _ (v : VehicleSheet) (trace : List ℕ) (k gear : ℕ) where
  abbrev halts : Bool
  halts = stop (flags_at trace k) || ltb (speed_at trace k) 100

  abbrev slow : Bool
  slow = below_lowest v gear (speed_at trace k)

  -- the byte of a gear, by the clutch of the definition
  byte-is : (h b : Bool) → halts ≡ h → slow ≡ b → gear ≤ 8 → clutched (h || b) gear ≡ gear + 128 * clutch_by v trace k gear
  unfolding clutch_of
  byte-is h b stops below few =
      sym (λ i. clutched (stops i || below i) gear) ∙ go (stop (flags_at trace k)) (ltb (speed_at trace k) 100) slow
    where
      go : (x y z : Bool) → clutched ((x || y) || z) gear ≡ gear + 128 * cond (x || y || z) 1 0
      go true y z = omega arith
      go false true z = omega arith
      go false false true = omega arith
      go false false false = omega arith

-- when k seconds have their clutch
pub record Put (trace tables lanes₀ : List ℕ) (n : ℕ) (lanes : List ℕ) (k : ℕ) : Type 0 where
  pub long : length lanes ≡ length lanes₀
  pub coming : (j i : ℕ) → j < 16 → k ≤ i → lane_at lanes j i ≡ lane_at lanes₀ j i
  pub lane : (j : ℕ) → j < 16 → (v : VehicleSheet) → Sound v → LimitsOf v tables j → (row : List ℕ) → Geared v trace row n → Holds lanes₀ row n j
      → (i : ℕ) → i < k → lane_at lanes j i ≡ gear_at row i + 128 * clutch_by v trace i (gear_at row i)

module _ (trace tables lanes₀ : List ℕ) (n : ℕ) where
  pub put-none : Put trace tables lanes₀ n lanes₀ 0
  put-none = record {
    long = refl;
    coming = λ j i l h. refl;
    lane = λ j l v sound limits row geared holds i h. absurd (let z : ⊥ = omega arith in z);
  }

  module _ (room : 16 * n ≤ length lanes₀) (top : ℕ) (tops : Tops tables 272 top) (lanes : List ℕ) (k : ℕ) (l : k < n) (p : Put trace tables lanes₀ n lanes k) where
    abbrev flags : ℕ
    flags = flags_at trace k

    abbrev speed : ℕ
    speed = speed_at trace k

    abbrev outs : List ℕ
    outs = line_by (λ m j. clutched true (lane_at m j k)) k lanes 16

    abbrev slows : List ℕ
    slows = line_by (λ m j. clutched (eqb (drives_lane tables speed (lane_at m j k) j 8) 0) (lane_at m j k)) k lanes 16

    -- no other second is changed
    others : (a b : Bool) (j i : ℕ) → j < 16 → (i ≡ k → ⊥) → lane_at (cond a outs (cond b slows lanes)) j i ≡ lane_at lanes j i
    others true b j i few apart = line_other _ k lanes j i few apart
    others false true j i few apart = line_other _ k lanes j i few apart
    others false false j i few apart = refl

    same-long : (a b : Bool) → length (cond a outs (cond b slows lanes)) ≡ length lanes
    same-long true b = line-length _ k lanes 16
    same-long false true = line-length _ k lanes 16
    same-long false false = refl

    module _ (j : ℕ) (few : j < 16) (v : VehicleSheet) (sound : Sound v) (limits : LimitsOf v tables j) (row : List ℕ) (geared : Geared v trace row n) (holds : Holds lanes₀ row n j) where
      abbrev gear : ℕ
      gear = gear_at row k

      own : lane_at lanes j k ≡ gear
      own = p.coming j k few (omega arith) ∙ holds k l

      eight : gear ≤ 8
      eight = let most = sound.ranged.gears.1 in let has = geared.high k l in omega arith

      fits : 16 * k + 16 ≤ length lanes
      fits = let long = p.long in omega arith

      drives : stop flags || ltb speed 100 ≡ false → 1 ≤ gear
      drives e = geared.some k l (go (stop flags) e)
        where
          go : (b : Bool) → b || ltb speed 100 ≡ false → b ≡ false
          go true z = z
          go false z = refl

      here : (a b : Bool) → stop flags || ltb speed 100 ≡ a → ltb speed top ≡ b
          → lane_at (cond a outs (cond b slows lanes)) j k ≡ gear + 128 * clutch_by v trace k gear
      here true b halt e =
          line_at (λ m j. clutched true (lane_at m j k)) k lanes fits j few (λ m same. ap (clutched true) (same k))
          ∙ ap (clutched true) own
          ∙ byte-is v trace k gear true (below_lowest v gear speed) halt refl eight
      here false true drive e =
          line_at (λ m j. clutched (eqb (drives_lane tables speed (lane_at m j k) j 8) 0) (lane_at m j k)) k lanes fits j few
          (λ m same. ap (λ (x : ℕ). clutched (eqb (drives_lane tables speed x j 8) 0) x) (same k))
          ∙ ap (λ (x : ℕ). clutched (eqb (drives_lane tables speed x j 8) 0) x) own
          ∙ ap (λ (b : Bool). clutched b gear) (slow-is v sound gear (drives drive) (geared.high k l) speed tables j limits)
          ∙ byte-is v trace k gear false (below_lowest v gear speed) drive refl eight
      here false false drive e =
          let over = ltb-false speed top e in
          own
          ∙ sym (small gear eight)
          ∙ byte-is v trace k gear false false drive (fast v sound gear (drives drive) (geared.high k l) speed tables j limits few top tops over) eight

    pub put_next : Put trace tables lanes₀ n (clutch_line tables top flags speed k lanes) (k + 1)
    put_next =
        let halt = stop flags || ltb speed 100 in
        let low = ltb speed top in
        record {
          long = same-long halt low ∙ p.long;
          coming = λ j i few h. others halt low j i few (λ e. omega arith) ∙ p.coming j i few (omega arith);
          lane = λ j few v sound limits row geared holds i h. to j few v sound limits row geared holds i h (dec_lt i k);
        }
      where
        to : (j : ℕ) → j < 16 → (v : VehicleSheet) → Sound v → LimitsOf v tables j → (row : List ℕ) → Geared v trace row n → Holds lanes₀ row n j
            → (i : ℕ) → i < k + 1 → Dec (i < k) → lane_at (clutch_line tables top flags speed k lanes) j i ≡ gear_at row i + 128 * clutch_by v trace i (gear_at row i)
        to j few v sound limits row geared holds i h (yes below) =
            others (stop flags || ltb speed 100) (ltb speed top) j i few (λ e. omega arith) ∙ p.lane j few v sound limits row geared holds i below
        to j few v sound limits row geared holds i h (no above) =
            let same : i ≡ k = omega arith in
            ap (lane_at (clutch_line tables top flags speed k lanes) j) same
            ∙ here j few v sound limits row geared holds (stop flags || ltb speed 100) (ltb speed top) refl refl
            ∙ ap (λ (i : ℕ). gear_at row i + 128 * clutch_by v trace i (gear_at row i)) (sym same)

  pub put_all : (lanes : List ℕ) (k : ℕ) → k ≡ n → Put trace tables lanes₀ n lanes k → Clutches trace tables lanes₀ lanes n
  put_all lanes k all p = record {
    long = p.long;
    lane = λ j few v sound limits row geared holds i h. p.lane j few v sound limits row geared holds i (omega arith);
  }
