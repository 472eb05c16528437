-- Each vehicle's part of the rows, and its answer: no other vehicle changes them. Assumes nothing.
use mathlib.Core.Path.{◌≡◌, refl, sym, ap, ◌∙◌}
use mathlib.Core.List.{List, ◌++◌}
use Prim.Native.Nat.{ℕ, zero, suc, ◌+◌, ◌-◌, ◌*◌, ◌<◌, ◌≤◌}
use native.Mathlib.Decide.{dec_lt}
use native.Mathlib.Omega.{arith}
use lib.ListN.{length, get_or, set, take, drop, length-set, length-drop, take-append-drop}
use lib.Seq.{drop-drop, drop_at, take_at, drop-append-le, take-append-le, drop-append-add, length-take-le, get_or-set_same, get_or-set_other}
use Rattle.std.specs.Prelude.{Ok, Err}
use Rattle.refusal.specs.Judging.{Judged, if_accepted}
use Rattle.house.specs.House.{count_of}
use Rattle.trace.specs.Judging.{judge_trace}
use Rattle.gear.specs.Sheet.{row_of}
use Rattle.outcome.specs.Outcome.{outcome_of}
use Rattle.plan.specs.Plan.{sheet_at, row_bytes, with_answer}
use Rattle.plan.specs.Lanes.{vehicle_answer, with_part, rows_up_to, answers_up_to}
use Rattle.plan.proofs.Places.{next_place, places-rise}
use Rattle.plan.proofs.Whole.{row-long, up-to-long}

-- part i of parts of one width
abbrev pub part_at : ℕ → ℕ → List ℕ → List ℕ
part_at width i rows = take width (drop (width * i) rows)

-- ---- one part written
module _ (rows row : List ℕ) (at width : ℕ) (long : length row ≡ width) (fits : at + width ≤ length rows) where
  front : length (take at rows) ≡ at
  front = length-take-le at rows (omega arith)

  pub written : take width (drop at (with_part rows at width row)) ≡ row
  written =
      ap (take width) (drop_at (take at rows) (row ++ drop (at + width) rows) at front)
      ∙ take_at row (drop (at + width) rows) width long

  -- what stands before it
  before-seam : (b w : ℕ) (rest : List ℕ) → b + w ≤ at → take w (drop b (take at rows ++ rest)) ≡ take w (drop b (take at rows))
  before-seam b w rest h =
      let start : b ≤ length (take at rows) = omega (arith, front) in
      let room : w ≤ length (drop b (take at rows)) = simp length-drop (omega (arith, front)) in
      ap (take w) (drop-append-le b (take at rows) rest start) ∙ take-append-le w (drop b (take at rows)) rest room

  pub before-kept : (b w : ℕ) → b + w ≤ at → take w (drop b (with_part rows at width row)) ≡ take w (drop b rows)
  before-kept b w h =
      before-seam b w (row ++ drop (at + width) rows) h
      ∙ sym (before-seam b w (drop at rows) h)
      ∙ ap (λ (l : List ℕ). take w (drop b l)) (take-append-drop at rows)

  -- and behind it
  pub behind-kept : (b : ℕ) → at + width ≤ b → drop b (with_part rows at width row) ≡ drop b rows
  behind-kept b h =
      let past : b ≡ length (take at rows) + (b - at) = omega (arith, front) in
      let more : b - at ≡ length row + (b - at - width) = omega (arith, long) in
      let back : at + width + (b - at - width) ≡ b = omega arith in
      ap (λ (b : ℕ). drop b (with_part rows at width row)) past
      ∙ drop-append-add (take at rows) (row ++ drop (at + width) rows) (b - at)
      ∙ ap (λ (b : ℕ). drop b (row ++ drop (at + width) rows)) more
      ∙ drop-append-add row (drop (at + width) rows) (b - at - width)
      ∙ drop-drop (b - at - width) (at + width) rows
      ∙ ap (λ (b : ℕ). drop b rows) back

-- ---- the rows of all vehicles
module _ (trace : List ℕ) (accepted : judge_trace trace ≡ Ok tt) (sheets : List ℕ) where
  abbrev n : ℕ
  n = count_of trace

  abbrev width : ℕ
  width = row_bytes trace

  abbrev answer : ℕ → Judged
  answer i = vehicle_answer trace (sheet_at sheets i) n

  abbrev row_at : ℕ → List ℕ
  row_at i = row_of (sheet_at sheets i) trace n

  -- a step of one vehicle
  abbrev step : List ℕ → ℕ → List ℕ
  step rows i = if_accepted (answer i) (with_part rows (width * i) width (row_at i)) rows

  if-same : {A : Type 0} (f : List ℕ → A) (j : Judged) (a b : List ℕ) → f a ≡ f b → f (if_accepted j a b) ≡ f b
  if-same f (Ok _) a b e = e
  if-same f (Err refusal) a b e = refl

  step-behind : (rows : List ℕ) (m b : ℕ) → width * m + width ≤ length rows → width * m + width ≤ b → drop b (step rows m) ≡ drop b rows
  step-behind rows m b fits h =
      if-same (drop b) (answer m) (with_part rows (width * m) width (row_at m)) rows
      (behind-kept rows (row_at m) (width * m) width (row-long (sheet_at sheets m) trace n) fits b h)

  step_other : (rows : List ℕ) (m i : ℕ) → width * m + width ≤ length rows → (i ≡ m → ⊥) → part_at width i (step rows m) ≡ part_at width i rows
  step_other rows m i fits apart = go (dec_lt i m)
    where
      go : Dec (i < m) → part_at width i (step rows m) ≡ part_at width i rows
      go (yes below) =
          let rise = places-rise width (i + 1) m (omega arith) in
          if-same (part_at width i) (answer m) (with_part rows (width * m) width (row_at m)) rows
          (before-kept rows (row_at m) (width * m) width (row-long (sheet_at sheets m) trace n) fits (width * i) width (omega (arith, rise, next_place width i)))
      go (no above) =
          let rise = places-rise width (m + 1) i (let more : m + 1 ≤ i = omega arith in more) in
          ap (take width) (step-behind rows m (width * i) fits (omega (arith, rise, next_place width m)))

  step-own : (rows : List ℕ) (m : ℕ) → width * m + width ≤ length rows → part_at width m (step rows m) ≡ if_accepted (answer m) (row_at m) (part_at width m rows)
  step-own rows m fits = go (answer m)
    where
      go : (j : Judged) → part_at width m (if_accepted j (with_part rows (width * m) width (row_at m)) rows) ≡ if_accepted j (row_at m) (part_at width m rows)
      go (Ok _) = written rows (row_at m) (width * m) width (row-long (sheet_at sheets m) trace n) fits
      go (Err refusal) = refl

  -- all of the first m
  module _ (rows : List ℕ) where
    abbrev up_to : ℕ → List ℕ
    up_to m = rows_up_to trace sheets n rows m

    room : (m : ℕ) → width * suc m ≤ length rows → width * m + width ≤ length (up_to m)
    room m h =
        let next : width * suc m ≡ width * m + width = omega arith in
        let long = up-to-long trace accepted sheets rows m (omega arith) in
        omega arith

    earlier : (m : ℕ) → width * suc m ≤ length rows → width * m ≤ length rows
    earlier m h =
        let next : width * suc m ≡ width * m + width = omega arith in
        omega arith

    not_yet : (m i : ℕ) → width * m ≤ length rows → m ≤ i → part_at width i (up_to m) ≡ part_at width i rows
    not_yet zero i h l = refl
    not_yet (suc m) i h l = step_other (up_to m) m i (room m h) (λ e. omega arith) ∙ not_yet m i (earlier m h) (omega arith)

    pub part-is : (m i : ℕ) → width * m ≤ length rows → i < m → part_at width i (up_to m) ≡ if_accepted (answer i) (row_at i) (part_at width i rows)
    part-is zero i h l = absurd (omega arith)
    part-is (suc m) i h l = go (dec_lt i m) (part-is m i (earlier m h))
      where
        go : Dec (i < m) → (i < m → part_at width i (up_to m) ≡ if_accepted (answer i) (row_at i) (part_at width i rows))
            → part_at width i (step (up_to m) m) ≡ if_accepted (answer i) (row_at i) (part_at width i rows)
        go (yes below) before = step_other (up_to m) m i (room m h) (λ e. omega arith) ∙ before below
        go (no above) before =
            let same : i ≡ m = omega arith in
            rw same (step-own (up_to m) m (room m h) ∙ ap (if_accepted (answer m) (row_at m)) (not_yet m m (earlier m h) (omega arith)))

    pub rest-kept : (m b : ℕ) → width * m ≤ length rows → width * m ≤ b → drop b (up_to m) ≡ drop b rows
    rest-kept zero b h l = refl
    rest-kept (suc m) b h l =
        let next : width * suc m ≡ width * m + width = omega arith in
        step-behind (up_to m) m b (room m h) (omega arith) ∙ rest-kept m b (earlier m h) (omega arith)

  -- ---- their answers
  module _ (answers : List ℕ) where
    abbrev answers_to : ℕ → List ℕ
    answers_to m = answers_up_to trace sheets n answers m

    pub answers_long : (m : ℕ) → length (answers_to m) ≡ length answers
    answers_long zero = refl
    answers_long (suc m) = simp length-set (answers_long m)

    other : (l : List ℕ) (m k : ℕ) (j : Judged) → (k ≡ 2 * m → ⊥) → (k ≡ 2 * m + 1 → ⊥) → get_or (with_answer l m j) k 0 ≡ get_or l k 0
    other l m k j p q =
        get_or-set_other (set l (2 * m) (outcome_of j).number) (2 * m + 1) k (outcome_of j).at 0 q ∙ get_or-set_other l (2 * m) k (outcome_of j).number 0 p

    pub answers_rest : (m k : ℕ) → 2 * m ≤ k → get_or (answers_to m) k 0 ≡ get_or answers k 0
    answers_rest zero k h = refl
    answers_rest (suc m) k h = other (answers_to m) m k (answer m) (λ e. omega arith) (λ e. omega arith) ∙ answers_rest m k (omega arith)

    pub answer-given : (m i : ℕ) → 2 * m ≤ length answers → i < m
        → (get_or (answers_to m) (2 * i) 0 ≡ (outcome_of (answer i)).number) × (get_or (answers_to m) (2 * i + 1) 0 ≡ (outcome_of (answer i)).at)
    answer-given zero i h l = absurd (omega arith)
    answer-given (suc m) i h l = go (dec_lt i m) (answer-given m i (omega arith))
      where
        long : length (answers_to m) ≡ length answers
        long = answers_long m

        go : Dec (i < m) → (i < m → (get_or (answers_to m) (2 * i) 0 ≡ (outcome_of (answer i)).number) × (get_or (answers_to m) (2 * i + 1) 0 ≡ (outcome_of (answer i)).at))
            → (get_or (with_answer (answers_to m) m (answer m)) (2 * i) 0 ≡ (outcome_of (answer i)).number)
            × (get_or (with_answer (answers_to m) m (answer m)) (2 * i + 1) 0 ≡ (outcome_of (answer i)).at)
        go (yes below) before = (
          other (answers_to m) m (2 * i) (answer m) (λ e. omega arith) (λ e. omega arith) ∙ (before below).0,
          other (answers_to m) m (2 * i + 1) (answer m) (λ e. omega arith) (λ e. omega arith) ∙ (before below).1,
        )
        go (no above) before =
            let same : i ≡ m = omega arith in
            rw same (
              get_or-set_other (set (answers_to m) (2 * m) (outcome_of (answer m)).number) (2 * m + 1) (2 * m) (outcome_of (answer m)).at 0 (λ e. omega arith)
                  ∙ get_or-set_same (answers_to m) (2 * m) (outcome_of (answer m)).number 0 (omega (arith, long)),
              get_or-set_same (set (answers_to m) (2 * m) (outcome_of (answer m)).number) (2 * m + 1) (outcome_of (answer m)).at 0 (simp length-set (omega (arith, long))),
            )
