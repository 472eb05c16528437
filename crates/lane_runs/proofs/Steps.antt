-- One second of all lanes: the seconds before it that take its gear, one after the other, and the lines that are put. Assumes nothing.
use mathlib.Core.Path.{◌≡◌, refl, sym, ap, subst, ◌∙◌}
use mathlib.Core.Bool.{Bool, true, false, cond, ◌||◌}
use mathlib.Core.List.{List}
use Prim.Native.Nat.{ℕ, ◌+◌, ◌-◌, ◌*◌, ◌<◌, ◌≤◌}
use native.Mathlib.Decide.{dec_le}
use native.Mathlib.Omega.{arith}
use borrow.Author.Tests.{ltb-true, ltb-false, lt-leb}
use lib.Dec.{leb, ltb}
use lib.ListN.{length}
use Rattle.house.specs.House.{stop, no_first}
use Rattle.lanes.specs.Lanes.{lane_at, line_by}
use Rattle.lanes.proofs.Lanes.{line-length, line_other, line_at}
use Rattle.lane_runs.specs.Runs.{reach_by, left_after, count_after, NoneReached, taken_at, TakenTo, RunsJudged, Rests, Judges}

module _ (runs : List ℕ) (k : ℕ) (lanes₀ : List ℕ) where
  pub taken_none : TakenTo 0 runs k lanes₀ lanes₀
  taken_none = record {
    long = refl;
    near = λ j i d l some few e. absurd (let z : ⊥ = omega arith in z);
    far = λ j i l off. refl;
  }

  module _ (room : 16 * k + 16 ≤ length lanes₀) (lanes : List ℕ) (d : ℕ) (t : TakenTo d runs k lanes₀ lanes) where
    abbrev at : ℕ
    at = k - (d + 1)

    abbrev put : List ℕ
    put = line_by (λ m j. cond (leb (d + 1) (lane_at runs j 2)) (lane_at m j k) (lane_at m j at)) at lanes 16

    -- what no turn has taken yet
    yet : (j i : ℕ) → j < 16 → i + (d + 1) ≡ k → lane_at lanes j i ≡ lane_at lanes₀ j i
    yet j i l e = t.far j i l (λ d' some few e'. omega arith)

    behind : (j : ℕ) → j < 16 → lane_at lanes j k ≡ lane_at lanes₀ j k
    behind j l = t.far j k l (λ d' some few e'. omega arith)

    near_by : d < k → (j i d' : ℕ) → j < 16 → 1 ≤ d' → d' ≤ d + 1 → i + d' ≡ k → Dec (d' ≤ d)
        → lane_at put j i ≡ cond (leb d' (lane_at runs j 2)) (lane_at lanes₀ j k) (lane_at lanes₀ j i)
    near_by below j i d' l some few e (yes old) = line_other _ at lanes j i l (λ z. omega arith) ∙ t.near j i d' l some old e
    near_by below j i d' l some few e (no new) =
        let last : d' ≡ d + 1 = omega arith in
        let here : i ≡ at = omega arith in
        let long = t.long in
        ap (lane_at put j) here
        ∙ line_at (λ m j. cond (leb (d + 1) (lane_at runs j 2)) (lane_at m j k) (lane_at m j at)) at lanes (omega arith) j l
        (λ m same. (λ x. cond (leb (d + 1) (lane_at runs j 2)) (same k x) (same at x)))
        ∙ (λ x. cond (leb (d + 1) (lane_at runs j 2)) (behind j l x) (yet j at l (omega arith) x))
        ∙ (λ x. cond (leb (sym last x) (lane_at runs j 2)) (lane_at lanes₀ j k) (lane_at lanes₀ j (sym here x)))

    go : (b : Bool) → ltb d k ≡ b → TakenTo (d + 1) runs k lanes₀ (cond b put lanes)
    go true is =
        let below = ltb-true d k is in
        record {
          long = line-length _ at lanes 16 ∙ t.long;
          near = λ j i d' l some few e. near_by below j i d' l some few e (dec_le d' d);
          far = λ j i l off. line_other _ at lanes j i l (λ z. off (d + 1) (omega arith) (omega arith) (omega arith)) ∙ t.far j i l (λ d' some few e. off d' some (omega arith) e);
        }
    go false is =
        let past = ltb-false d k is in
        record {
          long = t.long;
          near = λ j i d' l some few e. t.near j i d' l some (omega arith) e;
          far = λ j i l off. t.far j i l (λ d' some few e. off d' some (omega arith) e);
        }

    pub taken_next : TakenTo (d + 1) runs k lanes₀ (taken_at d runs k lanes)
    taken_next = go (ltb d k) refl

-- where no lane reaches one, nothing is taken
pub taken-nothing : (runs : List ℕ) (k : ℕ) (lanes : List ℕ) → NoneReached runs → TakenTo 4 runs k lanes lanes
taken-nothing runs k lanes none = record {
  long = refl;
  near = λ j i d l some few e.
      let is = none j l in
      ap (λ (b : Bool). cond b (lane_at lanes j k) (lane_at lanes j i)) (sym (lt-leb d (lane_at runs j 2) (omega arith)));
  far = λ j i l off. refl;
}

-- ---- the lines of a second: reach, left and count, each by what the others had
module _ (marked : Bool) (p k : ℕ) (lanes runs : List ℕ) (wide : 48 ≤ length runs) where
  abbrev runs₁ : List ℕ
  runs₁ = line_by (λ m j. reach_by (lane_at m j 0) (lane_at m j 1) (lane_at lanes j k)) 2 runs 16

  abbrev runs₂ : List ℕ
  runs₂ = line_by (λ m j. left_after marked (lane_at m j 0) (lane_at m j 1) (lane_at lanes j p) (lane_at lanes j k)) 1 runs₁ 16

  abbrev runs₃ : List ℕ
  runs₃ = line_by (λ m j. count_after (lane_at m j 0) (lane_at lanes j p) (lane_at lanes j k)) 0 runs₂ 16

  long₁ : length runs₁ ≡ length runs
  long₁ = line-length _ 2 runs 16

  long₂ : length runs₂ ≡ length runs
  long₂ = line-length _ 1 runs₁ 16 ∙ long₁

  long₃ : length runs₃ ≡ length runs
  long₃ = line-length _ 0 runs₂ 16 ∙ long₂

  module _ (j : ℕ) (l : j < 16) where
    reach-is : lane_at runs₃ j 2 ≡ reach_by (lane_at runs j 0) (lane_at runs j 1) (lane_at lanes j k)
    reach-is =
        line_other _ 0 runs₂ j 2 l (λ e. omega arith)
        ∙ line_other _ 1 runs₁ j 2 l (λ e. omega arith)
        ∙ line_at (λ m j. reach_by (lane_at m j 0) (lane_at m j 1) (lane_at lanes j k)) 2 runs (omega arith) j l
        (λ m same. (λ x. reach_by (same 0 x) (same 1 x) (lane_at lanes j k)))

    left_is : lane_at runs₃ j 1 ≡ left_after marked (lane_at runs j 0) (lane_at runs j 1) (lane_at lanes j p) (lane_at lanes j k)
    left_is =
        let count = line_other (λ m j. reach_by (lane_at m j 0) (lane_at m j 1) (lane_at lanes j k)) 2 runs j 0 l (λ e. omega arith) in
        let left = line_other (λ m j. reach_by (lane_at m j 0) (lane_at m j 1) (lane_at lanes j k)) 2 runs j 1 l (λ e. omega arith) in
        line_other _ 0 runs₂ j 1 l (λ e. omega arith)
        ∙ line_at (λ m j. left_after marked (lane_at m j 0) (lane_at m j 1) (lane_at lanes j p) (lane_at lanes j k)) 1 runs₁ (omega (arith, long₁)) j l
        (λ m same. (λ x. left_after marked (same 0 x) (same 1 x) (lane_at lanes j p) (lane_at lanes j k)))
        ∙ (λ x. left_after marked (count x) (left x) (lane_at lanes j p) (lane_at lanes j k))

    count-is : lane_at runs₃ j 0 ≡ count_after (lane_at runs j 0) (lane_at lanes j p) (lane_at lanes j k)
    count-is =
        line_at (λ m j. count_after (lane_at m j 0) (lane_at lanes j p) (lane_at lanes j k)) 0 runs₂ (omega (arith, long₂)) j l
        (λ m same. ap (λ (count : ℕ). count_after count (lane_at lanes j p) (lane_at lanes j k)) (same 0))
        ∙ ap (λ (count : ℕ). count_after count (lane_at lanes j p) (lane_at lanes j k))
        (line_other _ 1 runs₁ j 0 l (λ e. omega arith) ∙ line_other _ 2 runs j 0 l (λ e. omega arith))

  judged : (lanes' : List ℕ) → TakenTo 4 runs₃ k lanes lanes' → RunsJudged marked p k lanes lanes' runs runs₃
  judged lanes' t = record {
    long = t.long;
    long_runs = long₃;
    lane = λ j l. record {
      count = count-is j l;
      left = left_is j l;
      near = λ i d some few e.
          t.near j i d l some few e ∙ ap (λ (r : ℕ). cond (leb d r) (lane_at lanes j k) (lane_at lanes j i)) (reach-is j l);
      far = λ i off. t.far j i l off;
    };
  }

  -- by the equations of the calls
  pub judged-by : {one two three lanes' : List ℕ}
      → one ≡ line_by (λ m j. reach_by (lane_at m j 0) (lane_at m j 1) (lane_at lanes j k)) 2 runs 16
      → two ≡ line_by (λ m j. left_after marked (lane_at m j 0) (lane_at m j 1) (lane_at lanes j p) (lane_at lanes j k)) 1 one 16
      → three ≡ line_by (λ m j. count_after (lane_at m j 0) (lane_at lanes j p) (lane_at lanes j k)) 0 two 16
      → TakenTo 4 three k lanes lanes' → RunsJudged marked p k lanes lanes' runs three
  judged-by {one} {two} {three} {lanes'} a b c t =
      let is : three ≡ runs₃ =
      c
      ∙ ap (λ (m : List ℕ). line_by (λ m j. count_after (lane_at m j 0) (lane_at lanes j p) (lane_at lanes j k)) 0 m 16)
      (b ∙ ap (λ (m : List ℕ). line_by (λ m j. left_after marked (lane_at m j 0) (lane_at m j 1) (lane_at lanes j p) (lane_at lanes j k)) 1 m 16) a) in
      subst (λ (m : List ℕ). RunsJudged marked p k lanes lanes' runs m) (sym is) (judged lanes' (subst (λ (m : List ℕ). TakenTo 4 m k lanes lanes') is t))

-- ---- at a stop, and behind one
pub rested : (lanes : List ℕ) (runs : List ℕ) → 48 ≤ length runs → Rests lanes lanes runs (line_by (λ m j. 0) 1 runs 16)
rested lanes runs wide = record {
  same = refl;
  long_runs = line-length _ 1 runs 16;
  lane = λ j l. line_at (λ m j. 0) 1 runs (omega arith) j l (λ m same. refl);
}

pub judges-stop : (former flags p k : ℕ) (lanes lanes' runs runs' : List ℕ) → (stop flags || stop former) ≡ true → Rests lanes lanes' runs runs'
    → Judges former flags p k lanes lanes' runs runs'
unfolding Judges
judges-stop former flags p k lanes lanes' runs runs' e r = rw e r

pub judges-drive : (former flags p k : ℕ) (lanes lanes' runs runs' : List ℕ) → (stop flags || stop former) ≡ false
    → RunsJudged (no_first flags) p k lanes lanes' runs runs' → Judges former flags p k lanes lanes' runs runs'
unfolding Judges
judges-drive former flags p k lanes lanes' runs runs' e r = rw e r
