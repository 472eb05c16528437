-- What the six corrections leave: the length of the row, and the clutch of each second. Assumes nothing.
use mathlib.Core.Path.{◌≡◌, refl, ◌∙◌}
use mathlib.Core.Bool.{Bool, true, false, cond}
use mathlib.Core.List.{List}
use Prim.Native.Nat.{ℕ, zero, suc, ◌+◌, ◌-◌, ◌*◌}
use native.Mathlib.Omega.{arith}
use lib.Dec.{ltb}
use lib.ListN.{length, length-set}
use lib.Seq.{get_or-set_other}
use Rattle.house.specs.House.{stop_at}
use Rattle.walk.proofs.Walk.{in_turn-keeps}
use Rattle.row.specs.declared.Rule.{Rule}
use Rattle.row.specs.declared.Rule.TheVariants.{NoFirst, NoShift, NoDrop, OneStep}
use Rattle.row.specs.Row.{gear_at, clutch_at, set_gear}
use Rattle.row.specs.Corrections.{uncapped, cap_step, cap_runs, rule_step, pass_by}
use Rattle.runs.specs.Runs.{end_at, takes, filled, run_judged, row_after, next_after, smooth, smoothed}
use Rattle.runs.specs.Corrected.{corrected}

-- what no store of a gear changes, no correction changes
module _ {A : Type 0} (f : List ℕ → A) (keeps : (row : List ℕ) (k gear : ℕ) → f (set_gear row k gear) ≡ f row) (trace : List ℕ) (n : ℕ) where
  cond-keeps : (b : Bool) (x y : List ℕ) (a : A) → f x ≡ a → f y ≡ a → f (cond b x y) ≡ a
  cond-keeps true x y a p q = p
  cond-keeps false x y a p q = q

  turn-keeps : (row : List ℕ) (start : ℕ) → f (row_after trace row n start) ≡ f row
  unfolding row_after run_judged
  turn-keeps row start =
      let end = end_at trace row n start in
      let gear = gear_at row end in
      let fills : f (filled row start gear (end - start)) ≡ f row =
      in_turn-keeps f (λ state k. set_gear state (start + k) gear) (λ state k. keeps state (start + k) gear) row (end - start) in
      cond-keeps (stop_at trace start) row _ (f row) refl
      (cond-keeps (takes trace row n start end) (filled row start gear (end - start)) row (f row) fills refl)

  smooth-keeps : (row : List ℕ) (start fuel : ℕ) → f (smooth trace n row start fuel) ≡ f row
  unfolding smooth
  smooth-keeps row start zero = refl
  smooth-keeps row start (suc fuel) =
      cond-keeps (ltb start n) _ row (f row) (smooth-keeps (row_after trace row n start) (next_after trace row n start) fuel ∙ turn-keeps row start) refl

  smoothed-keeps : (row : List ℕ) → f (smoothed trace row n) ≡ f row
  unfolding smoothed
  smoothed-keeps row = smooth-keeps row 0 n

  cap-keeps : (row : List ℕ) → f (cap_runs trace row n) ≡ f row
  cap-keeps row = in_turn-keeps (λ (state : List ℕ × ℕ). f state.0) (cap_step trace) (λ state k. keeps state.0 k _) (row, uncapped) n

  pass-keeps : (rule : Rule) (row : List ℕ) → f (pass_by rule trace row n) ≡ f row
  pass-keeps rule row = in_turn-keeps f (rule_step rule trace) (λ state k. keeps state k _) row n

  corrected-keeps : (row : List ℕ) → f (corrected trace row n) ≡ f row
  corrected-keeps row =
      smoothed-keeps _ ∙ pass-keeps OneStep _ ∙ pass-keeps NoDrop _ ∙ pass-keeps NoShift _ ∙ pass-keeps NoFirst _ ∙ cap-keeps row

-- the length stays
pub corrected-length : (trace row : List ℕ) (n : ℕ) → length (corrected trace row n) ≡ length row
corrected-length trace row n = corrected-keeps length (λ r k gear. length-set r (2 * k) gear) trace n row

-- the clutch of each second stays
pub corrected-clutch : (trace row : List ℕ) (n k : ℕ) → clutch_at (corrected trace row n) k ≡ clutch_at row k
corrected-clutch trace row n k =
    corrected-keeps (λ (r : List ℕ). clutch_at r k) (λ r j gear. get_or-set_other r (2 * j) (2 * k + 1) gear 0 (λ (e : 2 * k + 1 ≡ 2 * j). omega arith)) trace n row
