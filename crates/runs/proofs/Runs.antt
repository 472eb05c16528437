-- The laws of correction 6: what a turn of its loop leaves, by what starts there, and that the turns left make the finished row. Assumes nothing.
use mathlib.Core.Path.{◌≡◌, refl, sym, ap, ◌∙◌}
use mathlib.Core.Bool.{Bool, true, false, cond}
use mathlib.Core.List.{List}
use Prim.Native.Nat.{ℕ, zero, suc, ◌+◌, ◌-◌, ◌<◌, ◌≤◌}
use native.Mathlib.Omega.{arith}
use borrow.Author.Tests.{lt-ltb, le-ltb}
use Rattle.house.specs.House.{stop_at}
use Rattle.row.specs.Row.{gear_at}
use Rattle.runs.specs.Runs.{end_at, takes, filled, run_judged, run_next, row_after, next_after, Turn, smooth}

module _ (trace row : List ℕ) (n start : ℕ) where
  -- a stop second
  pub turn-stop : stop_at trace start ≡ true → start < n → Turn trace row n start row (start + 1)
  unfolding row_after next_after
  turn-stop h l = record {
    leaves = sym (ap (λ (b : Bool). cond b row (run_judged trace row n start (end_at trace row n start))) h);
    goes = sym (ap (λ (b : Bool). cond b (start + 1) (run_next trace row n start (end_at trace row n start))) h);
    on = omega arith;
    within = omega arith;
  }

  module _ (end : ℕ) (go : stop_at trace start ≡ false) (ends : end ≡ end_at trace row n start) where
    row_is : row_after trace row n start ≡ run_judged trace row n start end
    unfolding row_after
    row_is = ap (λ (b : Bool). cond b row (run_judged trace row n start (end_at trace row n start))) go ∙ ap (run_judged trace row n start) (sym ends)

    next-is : next_after trace row n start ≡ run_next trace row n start end
    unfolding next_after
    next-is = ap (λ (b : Bool). cond b (start + 1) (run_next trace row n start (end_at trace row n start))) go ∙ ap (run_next trace row n start) (sym ends)

    -- the row where the run takes the gear beside it
    merged : List ℕ
    merged = filled row start (gear_at row end) (end - start)

    by-takes : {b : Bool} → takes trace row n start end ≡ b
        → (row_after trace row n start ≡ cond b merged row) × (next_after trace row n start ≡ cond b (end_at trace merged n end) end)
    unfolding run_judged run_next merged
    by-takes e = (row_is ∙ ap (λ (b : Bool). cond b merged row) e, next-is ∙ ap (λ (b : Bool). cond b (end_at trace merged n end) end) e)

    -- a run that stays
    pub turn-stays : takes trace row n start end ≡ false → start < end → end ≤ n → Turn trace row n start row end
    turn-stays e l m = record { leaves = sym (by-takes e).0; goes = sym (by-takes e).1; on = l; within = m }

    -- a run that takes the gear beside it
    pub turn-takes : takes trace row n start end ≡ true → (row' : List ℕ) → row' ≡ filled row start (gear_at row end) (end - start)
        → (next : ℕ) → next ≡ end_at trace row' n end → start < next → next ≤ n → Turn trace row n start row' next
    unfolding merged
    turn-takes e row' q next p l m = record {
      leaves = q ∙ sym (by-takes e).0;
      goes = p ∙ ap (λ (r : List ℕ). end_at trace r n end) q ∙ sym (by-takes e).1;
      on = l;
      within = m;
    }

module _ (trace : List ℕ) (n : ℕ) where
  -- what is left of the loop at a second: so much fuel, and the row that the turns make is `goal`
  pub Left : List ℕ → List ℕ → ℕ → Type 0
  Left goal row start = (fuel : ℕ) × (n ≤ start + fuel) × (goal ≡ smooth trace n row start fuel)

  pub left-start : (row : List ℕ) → Left (smooth trace n row 0 n) row 0
  unfolding Left
  left-start row = (n, omega arith, refl)

  turned : (goal row : List ℕ) (start fuel : ℕ) → n ≤ start + fuel → goal ≡ smooth trace n row start fuel
      → start < n → (row' : List ℕ) (next : ℕ) → Turn trace row n start row' next → Left goal row' next
  unfolding Left smooth
  turned goal row start zero enough e l row' next t = absurd (omega arith)
  turned goal row start (suc fuel) enough e l row' next t =
      let on : start < next = t.on in (
        fuel,
        omega arith,
        e ∙ ap (λ (b : Bool). cond b (smooth trace n (row_after trace row n start) (next_after trace row n start) fuel) row) (lt-ltb start n l)
            ∙ (λ i. smooth trace n (sym t.leaves i) (sym t.goes i) fuel),
      )

  pub left-turn : (goal row : List ℕ) (start : ℕ) → Left goal row start → start < n
      → (row' : List ℕ) (next : ℕ) → Turn trace row n start row' next → Left goal row' next
  unfolding Left
  left-turn goal row start w l row' next t = turned goal row start w.0 w.1 w.2 l row' next t

  ended : (row : List ℕ) (start fuel : ℕ) → n ≤ start → smooth trace n row start fuel ≡ row
  unfolding smooth
  ended row start zero l = refl
  ended row start (suc fuel) l = ap (λ (b : Bool). cond b (smooth trace n (row_after trace row n start) (next_after trace row n start) fuel) row) (le-ltb start n l)

  pub left_end : (goal row : List ℕ) (start : ℕ) → Left goal row start → n ≤ start → row ≡ goal
  unfolding Left
  left_end goal row start w l = sym (w.2 ∙ ended row start w.0 l)
