-- Second by second the lanes become what corrections 1 to 5 make of the row of each. Assumes nothing.
use mathlib.Core.Path.{◌≡◌, refl, sym, ap, ◌∙◌}
use mathlib.Core.Bool.{false}
use mathlib.Core.List.{List}
use Prim.Native.Nat.{ℕ, zero, suc, ◌+◌, ◌-◌, ◌*◌, ◌<◌, ◌≤◌}
use native.Mathlib.Decide.{dec_lt}
use native.Mathlib.Omega.{arith}
use native.Mathlib.Numerals.{add-one}
use borrow.Author.Tests.{eqb-true, ne_eqb}
use lib.Dec.{eqb}
use lib.ListN.{length}
use Rattle.walk.specs.Walk.{scan}
use Rattle.walk.proofs.Ends.{search-ends}
use Rattle.house.specs.House.{flags_at}
use Rattle.row.specs.declared.Rule.{Rule}
use Rattle.row.specs.declared.Rule.TheVariants.{NoFirst, NoShift, NoDrop, OneStep}
use Rattle.row.specs.Row.{gear_at}
use Rattle.row.specs.Corrections.{capped, cap_after, cap_runs, ruled, pass_by, five_row}
use Rattle.row.proofs.Passes.{cap_at, cap-first, cap-next, cap-at, cap-length, no-former, pass-first, pass-next, pass-length}
use Rattle.lanes.specs.Lanes.{lane_at, Holds}
use Rattle.lanes.specs.Corrections.{LaneStepped, Stepped, Corrects}
use Rattle.lanes.proofs.Steps.{no-before}

-- a rule at second k: `before` is what it left the second before with, if there is one
module _ (rule : Rule) (trace row : List ℕ) (n : ℕ) (room : 2 * n ≤ length row) where
  abbrev after : List ℕ
  after = pass_by rule trace row n

  ruled-at : (k before : ℕ) → k < n → ((i : ℕ) → k ≡ suc i → before ≡ gear_at after i)
      → ruled rule (eqb k 0) (flags_at trace (k - 1)) (flags_at trace k) before (gear_at row k) ≡ gear_at after k
  ruled-at zero before l was =
      no-former rule (flags_at trace (0 - 1)) (flags_at trace 0) (flags_at trace 0) before (gear_at row 0) (gear_at row 0) ∙ sym (pass-first rule trace row n room l)
  ruled-at (suc k) before l was =
      let later : eqb (suc k) 0 ≡ false = ne_eqb (suc k) 0 (λ (e : suc k ≡ 0). omega arith) in
      let less : suc k - 1 ≡ k = omega arith in
      (λ i. ruled rule (later i) (flags_at trace (less i)) (flags_at trace (suc k)) (was k refl i) (gear_at row (suc k)))
      ∙ sym (pass-next rule trace row n room k l)

module _ (trace row : List ℕ) (n : ℕ) where
  abbrev one : List ℕ
  one = cap_runs trace row n

  abbrev two : List ℕ
  two = pass_by NoFirst trace one n

  abbrev three : List ℕ
  three = pass_by NoShift trace two n

  abbrev four : List ℕ
  four = pass_by NoDrop trace three n

  -- a lane when k seconds are corrected: its gears, and what is kept of the last of them
  pub record LaneReached (lanes kept : List ℕ) (j k : ℕ) : Type 0 where
    pub cap : lane_at kept j 0 ≡ cap_at trace row k
    pub thirds : (i : ℕ) → k ≡ suc i → lane_at kept j 1 ≡ gear_at three i
    pub fourths : (i : ℕ) → k ≡ suc i → lane_at kept j 2 ≡ gear_at four i
    pub fifths : (i : ℕ) → k ≡ suc i → lane_at kept j 4 ≡ gear_at (five_row trace row n) i
    pub done : (i : ℕ) → i < k → lane_at lanes j i ≡ gear_at (five_row trace row n) i

  module _ (room : 2 * n ≤ length row) (lanes lanes' kept kept' : List ℕ) (j k : ℕ) (few : j < 16) (l : k < n)
      (s : Stepped (eqb k 0) (flags_at trace (k - 1)) (flags_at trace k) k lanes lanes' kept kept') (own : lane_at lanes j k ≡ gear_at row k)
      (r : LaneReached lanes kept j k) where
    abbrev step : LaneStepped (eqb k 0) (flags_at trace (k - 1)) (flags_at trace k) (lane_at lanes j k) (lane_at kept j 0) (lane_at kept j 1) (lane_at kept j 2) (lane_at kept j 4)
        (lane_at kept' j 0) (lane_at kept' j 1) (lane_at kept' j 2) (lane_at kept' j 4)
    step = s.lane j few

    in_one : 2 * n ≤ length one
    in_one = omega (arith, cap-length trace row n)

    in_two : 2 * n ≤ length two
    in_two = omega (arith, pass-length NoFirst trace one n, in_one)

    in_three : 2 * n ≤ length three
    in_three = omega (arith, pass-length NoShift trace two n, in_two)

    in_four : 2 * n ≤ length four
    in_four = omega (arith, pass-length NoDrop trace three n, in_three)

    one-is : capped (flags_at trace k) (lane_at kept j 0) (lane_at lanes j k) ≡ gear_at one k
    one-is =
        let cap = r.cap in
        (λ i. capped (flags_at trace k) (cap i) (own i)) ∙ sym (cap-at trace row n k l room)

    two_is : ruled NoFirst (eqb k 0) (flags_at trace (k - 1)) (flags_at trace k) 0 (capped (flags_at trace k) (lane_at kept j 0) (lane_at lanes j k)) ≡ gear_at two k
    two_is =
        ap (ruled NoFirst (eqb k 0) (flags_at trace (k - 1)) (flags_at trace k) 0) one-is
        ∙ sym (no-before (eqb k 0) (flags_at trace (k - 1)) (flags_at trace k) (gear_at two (k - 1)) (gear_at one k))
        ∙ ruled-at NoFirst trace one n in_one k (gear_at two (k - 1)) l (λ i e. let less : k - 1 ≡ i = omega arith in ap (gear_at two) less)

    three-is : lane_at kept' j 1 ≡ gear_at three k
    three-is =
        step.thirds
        ∙ ap (ruled NoShift (eqb k 0) (flags_at trace (k - 1)) (flags_at trace k) (lane_at kept j 1)) two_is
        ∙ ruled-at NoShift trace two n in_two k (lane_at kept j 1) l r.thirds

    four_is : lane_at kept' j 2 ≡ gear_at four k
    four_is =
        step.fourths
        ∙ ap (ruled NoDrop (eqb k 0) (flags_at trace (k - 1)) (flags_at trace k) (lane_at kept j 2)) three-is
        ∙ ruled-at NoDrop trace three n in_three k (lane_at kept j 2) l r.fourths

    five-is : lane_at kept' j 4 ≡ gear_at (five_row trace row n) k
    five-is =
        step.fifths
        ∙ ap (ruled OneStep (eqb k 0) (flags_at trace (k - 1)) (flags_at trace k) (lane_at kept j 4)) four_is
        ∙ ruled-at OneStep trace four n in_four k (lane_at kept j 4) l r.fifths

    done-to : (i : ℕ) → i < k + 1 → Dec (i < k) → lane_at lanes' j i ≡ gear_at (five_row trace row n) i
    done-to i h (yes below) = s.others j i few (λ e. omega arith) ∙ r.done i below
    done-to i h (no above) =
        let same : i ≡ k = omega arith in
        ap (lane_at lanes' j) same ∙ s.second j few ∙ five-is ∙ ap (gear_at (five_row trace row n)) (sym same)

    lane-next : LaneReached lanes' kept' j (k + 1)
    lane-next =
        let cap = r.cap in
        record {
          cap = step.caps ∙ (λ i. cap_after (flags_at trace k) (cap i) (own i)) ∙ sym (cap-next trace row k) ∙ ap (cap_at trace row) (sym (add-one k));
          thirds = λ i e. let same : k ≡ i = omega arith in three-is ∙ ap (gear_at three) same;
          fourths = λ i e. let same : k ≡ i = omega arith in four_is ∙ ap (gear_at four) same;
          fifths = λ i e. let same : k ≡ i = omega arith in five-is ∙ ap (gear_at (five_row trace row n)) same;
          done = λ i h. done-to i h (dec_lt i k);
        }

-- all lanes when k seconds are corrected: those to come are as they were
pub record Reached (trace lanes₀ : List ℕ) (n : ℕ) (lanes kept : List ℕ) (k : ℕ) : Type 0 where
  pub long : length lanes ≡ length lanes₀
  pub wide : length kept ≡ 80
  pub coming : (j i : ℕ) → j < 16 → k ≤ i → lane_at lanes j i ≡ lane_at lanes₀ j i
  pub lane : (j : ℕ) → j < 16 → (row : List ℕ) → 2 * n ≤ length row → Holds lanes₀ row n j → LaneReached trace row n lanes kept j k

module _ (trace lanes₀ : List ℕ) (n : ℕ) where
  pub reached-none : (kept : List ℕ) → length kept ≡ 80 → scan (λ j. eqb (lane_at kept j 0) 255) (λ j. j) (λ j. j) 0 16 ≡ 16 → Reached trace lanes₀ n lanes₀ kept 0
  reached-none kept wide all = record {
    long = refl;
    wide = wide;
    coming = λ j i l h. refl;
    lane = λ j l row room holds. record {
      cap = eqb-true (lane_at kept j 0) 255 ((search-ends (λ j. eqb (lane_at kept j 0) 255) 16 0 16 refl).inside j (omega arith) (omega (arith, all))) ∙ sym (cap-first trace row);
      thirds = λ i e. absurd (let z : ⊥ = omega arith in z);
      fourths = λ i e. absurd (let z : ⊥ = omega arith in z);
      fifths = λ i e. absurd (let z : ⊥ = omega arith in z);
      done = λ i h. absurd (let z : ⊥ = omega arith in z);
    };
  }

  pub reached-next : (lanes lanes' kept kept' : List ℕ) (k : ℕ) → k < n → Reached trace lanes₀ n lanes kept k
      → Stepped (eqb k 0) (flags_at trace (k - 1)) (flags_at trace k) k lanes lanes' kept kept' → Reached trace lanes₀ n lanes' kept' (k + 1)
  reached-next lanes lanes' kept kept' k l r s = record {
    long = s.long ∙ r.long;
    wide = s.long_kept ∙ r.wide;
    coming = λ j i few h. s.others j i few (λ e. omega arith) ∙ r.coming j i few (omega arith);
    lane = λ j few row room holds.
        lane-next trace row n room lanes lanes' kept kept' j k few l s (r.coming j k few (omega arith) ∙ holds k l) (r.lane j few row room holds);
  }

  pub reached-all : (lanes kept : List ℕ) (k : ℕ) → k ≡ n → Reached trace lanes₀ n lanes kept k → Corrects trace lanes₀ lanes n
  reached-all lanes kept k all r = record {
    long = r.long;
    lane = λ j few row room holds i h. (r.lane j few row room holds).done i (omega arith);
  }
