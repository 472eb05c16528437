-- What correction 5 gives every two neighbours, and that correction 6 keeps it, with what corrections 1 to 5 keep of every second: a run that takes the
-- gear beside it takes one that its seconds allow, and its ends then stand beside that same gear. Assumes nothing.
use mathlib.Core.Path.{◌≡◌, refl, sym, ap, subst, ◌∙◌}
use mathlib.Core.Bool.{Bool, true, false, cond, false≢true}
use mathlib.Core.List.{List}
use Prim.Native.Nat.{ℕ, zero, suc, ◌+◌, ◌-◌, ◌*◌, ◌≤◌, ◌<◌}
use native.Mathlib.Decide.{dec_lt}
use native.Mathlib.Omega.{arith}
use lib.Dec.{ltb}
use lib.ListN.{length}
use Rattle.house.specs.House.{flags_at, stop_at, no_first_at}
use Rattle.row.specs.declared.Rule.TheVariants.{OneStep}
use Rattle.row.specs.Row.{gear_at}
use Rattle.row.specs.Corrections.{by_rule, pass_by}
use Rattle.runs.specs.Runs.{end_at, filled, takes, run_judged, row_after, next_after, smooth, smoothed}
use Rattle.runs.proofs.Fuel.{end-gt}
use Rattle.runs.proofs.Fills.{fill-length, fill-in, fill-before, fill-behind}
use Rattle.runs.proofs.Taken.{run-drives, Taken, taken}
use Rattle.driven.specs.Rows.{AtMostOneStep}
use Rattle.row.proofs.Passes.{pass-next}
use Rattle.row.proofs.Ranges.{least_by, least-range, ruled-drive}
use Rattle.driven.proofs.Seconds.{Second}

-- a row of n seconds, each with a gear that it allows, and near the one before it outside stops
pub record Fit (trace : List ℕ) (n most : ℕ) (row : List ℕ) : Type 0 where
  pub long : 2 * n ≤ length row
  pub second : (k : ℕ) → k < n → Second trace n most (least_by (flags_at trace k)) k (gear_at row k)
  pub near : (k : ℕ) → suc k < n → stop_at trace (suc k) ≡ false → AtMostOneStep (gear_at row k) (gear_at row (suc k))

-- ---- correction 5
pub pass-near : (trace row : List ℕ) (n : ℕ) → 2 * n ≤ length row → (k : ℕ) → suc k < n → stop_at trace (suc k) ≡ false
    → AtMostOneStep (gear_at (pass_by OneStep trace row n) k) (gear_at (pass_by OneStep trace row n) (suc k))
pass-near trace row n room k l drive =
    let before = gear_at (pass_by OneStep trace row n) k in
    let own = gear_at row (suc k) in
    let new = by_rule OneStep false (flags_at trace k) (flags_at trace (suc k)) before own in
    let is : gear_at (pass_by OneStep trace row n) (suc k) ≡ new =
    pass-next OneStep trace row n room k l ∙ ruled-drive OneStep false (flags_at trace k) (flags_at trace (suc k)) before own drive in
    subst (AtMostOneStep before) (sym is) (record { up = omega arith; down = omega arith })

-- ---- correction 6
-- a run that took the gear beside it
module _ (trace row : List ℕ) (n most start end : ℕ) (fit : Fit trace n most row) (some : start < end)
    (drives : (k : ℕ) → start ≤ k → k < end → stop_at trace k ≡ false) (t : Taken trace row n start end) where
  after : List ℕ
  after = filled row start (gear_at row end) (end - start)

  in-run : (k : ℕ) → start ≤ k → k < end → gear_at after k ≡ gear_at row end
  unfolding after
  in-run k h l =
      let room : end < n = t.inside.1 in
      fill-in row start (gear_at row end) (end - start) k h (omega arith) (omega (arith, fit.long))

  before-run : (k : ℕ) → k < start → gear_at after k ≡ gear_at row k
  unfolding after
  before-run k l = fill-before row start (gear_at row end) (end - start) k l

  behind-run : (k : ℕ) → end ≤ k → gear_at after k ≡ gear_at row k
  unfolding after
  behind-run k l = fill-behind row start (gear_at row end) (end - start) k (omega arith)

  -- the run and the seconds on its two sides
  around-run : (k : ℕ) → start ≤ suc k → k ≤ end → Dec (k < start) → Dec (k < end) → gear_at after k ≡ gear_at row end
  around-run k h l (yes left) d =
      let last : k ≡ start - 1 = omega arith in
      before-run k left ∙ ap (gear_at row) last ∙ t.same
  around-run k h l (no right) (yes below) = in-run k (omega arith) below
  around-run k h l (no right) (no above) =
      let first : k ≡ end = omega arith in
      behind-run k (omega arith) ∙ ap (gear_at row) first

  allowed-low : (k : ℕ) → start ≤ k → k < end → 1 ≤ gear_at row end → (b : Bool) → no_first_at trace k ≡ b → cond b 2 1 ≤ gear_at row end
  allowed-low k h l lower false e = lower
  allowed-low k h l lower true e = go (dec_lt 1 (gear_at row end))
    where
      go : Dec (1 < gear_at row end) → 2 ≤ gear_at row end
      go (yes more) = omega arith
      go (no less) =
          let one : gear_at row end ≡ 1 = omega arith in
          let same : start + (k - start) ≡ k = omega arith in
          absurd (false≢true (sym (t.allowed one (k - start) (omega arith)) ∙ ap (no_first_at trace) same ∙ e))

  run-second : (k : ℕ) → start ≤ k → k < end → Second trace n most (least_by (flags_at trace k)) k (gear_at row end)
  run-second k h l =
      let there = (fit.second end t.inside.1).drives t.beside in
      let least = (least-range (flags_at trace end)).low in
      record {
        drives = λ e. record { low = allowed-low k h l (omega arith) (no_first_at trace k) refl; high = there.high };
        halts = λ e. absurd (false≢true (sym (drives k h l) ∙ e));
      }

  after-second : (k : ℕ) → k < n → Dec (k < start) → Dec (k < end) → Second trace n most (least_by (flags_at trace k)) k (gear_at after k)
  after-second k l (yes left) d = subst (Second trace n most (least_by (flags_at trace k)) k) (sym (before-run k left)) (fit.second k l)
  after-second k l (no right) (yes below) =
      subst (Second trace n most (least_by (flags_at trace k)) k) (sym (in-run k (omega arith) below)) (run-second k (omega arith) below)
  after-second k l (no right) (no above) =
      subst (Second trace n most (least_by (flags_at trace k)) k) (sym (behind-run k (omega arith))) (fit.second k l)

  after-near : (k : ℕ) → suc k < n → stop_at trace (suc k) ≡ false → Dec (suc k < start) → Dec (end < suc k) → AtMostOneStep (gear_at after k) (gear_at after (suc k))
  after-near k l e (yes left) d =
      let near = fit.near k l e in
      let here = before-run k (omega arith) in
      let next = before-run (suc k) left in
      record { up = omega arith; down = omega arith }
  after-near k l e (no right) (yes above) =
      let near = fit.near k l e in
      let here = behind-run k (omega arith) in
      let next = behind-run (suc k) (omega arith) in
      record { up = omega arith; down = omega arith }
  after-near k l e (no right) (no below) =
      let here = around-run k (omega arith) (omega arith) (dec_lt k start) (dec_lt k end) in
      let next = around-run (suc k) (omega arith) (omega arith) (dec_lt (suc k) start) (dec_lt (suc k) end) in
      record { up = omega arith; down = omega arith }

  after-fit : Fit trace n most (filled row start (gear_at row end) (end - start))
  unfolding after
  after-fit = record {
    long = omega (arith, fill-length row start (gear_at row end) (end - start), fit.long);
    second = λ k l. after-second k l (dec_lt k start) (dec_lt k end);
    near = λ k l e. after-near k l e (dec_lt (suc k) start) (dec_lt end (suc k));
  }

module _ (trace : List ℕ) (n most : ℕ) where
  cond-fit : (b : Bool) (x y : List ℕ) → Fit trace n most x → Fit trace n most y → Fit trace n most (cond b x y)
  cond-fit true x y p q = p
  cond-fit false x y p q = q

  -- one turn, then all
  turn-fit : (row : List ℕ) (start : ℕ) → Fit trace n most row → Fit trace n most (row_after trace row n start)
  unfolding row_after run_judged
  turn-fit row start fit = go (stop_at trace start) (takes trace row n start end) refl refl
    where
      end : ℕ
      end = end_at trace row n start

      go : (b c : Bool) → stop_at trace start ≡ b → takes trace row n start end ≡ c
          → Fit trace n most (cond b row (cond c (filled row start (gear_at row end) (end - start)) row))
      go true c e f = fit
      go false false e f = fit
      go false true e f =
          after-fit trace row n most start end fit (end-gt trace n row start start (omega arith)) (run-drives trace row n start e) (taken trace row n start end f)

  smooth-fit : (row : List ℕ) (start fuel : ℕ) → Fit trace n most row → Fit trace n most (smooth trace n row start fuel)
  unfolding smooth
  smooth-fit row start zero fit = fit
  smooth-fit row start (suc fuel) fit =
      cond-fit (ltb start n) _ row (smooth-fit (row_after trace row n start) (next_after trace row n start) fuel (turn-fit row start fit)) fit

  pub smoothed-fit : (row : List ℕ) → Fit trace n most row → Fit trace n most (smoothed trace row n)
  unfolding smoothed
  smoothed-fit row fit = smooth-fit row 0 n fit
