-- The lanes' rows are those of their vehicles, and blocks one after the other are all vehicles one after the other. Assumes nothing.
use mathlib.Core.Path.{◌≡◌, refl, ap, ◌∙◌}
use mathlib.Core.Bool.{cond}
use mathlib.Core.List.{List}
use Prim.Native.Nat.{ℕ, zero, suc, ◌+◌, ◌*◌, ◌<◌, ◌≤◌}
use native.Mathlib.Omega.{arith}
use lib.Dec.{eqb}
use Rattle.walk.specs.Walk.{in_turn}
use Rattle.walk.proofs.Same.{in_turn-same}
use Rattle.std.specs.Prelude.{Ok, Err}
use Rattle.refusal.specs.Judging.{Judged, if_accepted}
use Rattle.vehicle.specs.declared.VehicleSheet.{VehicleSheet}
use Rattle.gear.specs.Sheet.{row_of}
use Rattle.lanes.specs.Lanes.{lane_at}
use Rattle.plan.specs.Plan.{sheet_at, with_answer}
use Rattle.plan.specs.Lanes.{vehicle_answer, Lane, Lanes, with_part, rows_from, lane_row, Finishes, parts_to, answers_from, rows_up_to, answers_up_to}

-- so many steps, and then more
pub in_turn-on : {S : Type 0} (step : S → ℕ → S) (s : S) (m n : ℕ) → in_turn (λ s j. step s (m + j)) (in_turn step s m) n ≡ in_turn step s (m + n)
in_turn-on step s m zero =
    let same : m ≡ m + 0 = omega arith in
    ap (in_turn step s) same
in_turn-on step s m (suc n) =
    let same : suc (m + n) ≡ m + suc n = omega arith in
    ap (λ (x : _). step x (m + n)) (in_turn-on step s m n) ∙ ap (in_turn step s) same

-- ---- one lane: where its vehicle is accepted, its row
module _ (trace sheets tables lanes lanes₀ : List ℕ) (n from : ℕ) (done : Finishes trace tables lanes₀ lanes n) where
  lane-step : (j : ℕ) → j < 16 → (v : VehicleSheet) (answer : Judged) → Lane v answer tables j → (rows : List ℕ)
      → cond (eqb (lane_at tables j 17) 1) (with_part rows (2 * n * from + 2 * n * j) (2 * n) (lane_row lanes j n)) rows
      ≡ if_accepted answer (with_part rows (2 * n * (from + j)) (2 * n) (row_of v trace n)) rows
  lane-step j few v (Ok _) lane rows =
      let place : 2 * n * from + 2 * n * j ≡ 2 * n * (from + j) = omega arith in
      let row = done.lane j few v (lane.table refl) in
      ap (λ (flag : ℕ). cond (eqb flag 1) (with_part rows (2 * n * from + 2 * n * j) (2 * n) (lane_row lanes j n)) rows) lane.flag
      ∙ (λ i. with_part rows (place i) (2 * n) (row i))
  lane-step j few v (Err refusal) lane rows =
      ap (λ (flag : ℕ). cond (eqb flag 1) (with_part rows (2 * n * from + 2 * n * j) (2 * n) (lane_row lanes j n)) rows) lane.flag

  pub parts_are : (few at : ℕ) → few ≤ 16 → at ≡ 2 * n * from → Lanes trace sheets n from tables few → (rows : List ℕ)
      → parts_to tables lanes n at rows few ≡ rows_from trace sheets n from rows few
  parts_are few at sixteen begins held rows =
      ap (λ (at : ℕ). parts_to tables lanes n at rows few) begins
      ∙ in_turn-same _ _ rows few (λ s j l. lane-step j (omega arith) (sheet_at sheets (from + j)) (vehicle_answer trace (sheet_at sheets (from + j)) n) (held j l) s)

-- ---- a block more
pub rows_on : (trace sheets : List ℕ) (n from few : ℕ) (rows₀ : List ℕ) {rows rows' : List ℕ} → rows ≡ rows_up_to trace sheets n rows₀ from
    → rows' ≡ rows_from trace sheets n from rows few → rows' ≡ rows_up_to trace sheets n rows₀ (from + few)
rows_on trace sheets n from few rows₀ e next =
    next ∙ ap (λ (rows : List ℕ). rows_from trace sheets n from rows few) e
    ∙ in_turn-on (λ rows i. if_accepted (vehicle_answer trace (sheet_at sheets i) n) (with_part rows (2 * n * i) (2 * n) (row_of (sheet_at sheets i) trace n)) rows) rows₀ from few

pub answers-on : (trace sheets : List ℕ) (n from few : ℕ) (answers₀ : List ℕ) {answers answers' : List ℕ} → answers ≡ answers_up_to trace sheets n answers₀ from
    → answers' ≡ answers_from trace sheets n from answers few → answers' ≡ answers_up_to trace sheets n answers₀ (from + few)
answers-on trace sheets n from few answers₀ e next =
    next ∙ ap (λ (answers : List ℕ). answers_from trace sheets n from answers few) e
    ∙ in_turn-on (λ answers i. with_answer answers i (vehicle_answer trace (sheet_at sheets i) n)) answers₀ from few
