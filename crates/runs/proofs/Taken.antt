-- What a run has that takes the gear beside it: a second on both sides, no stop behind it, the same gear on both, and no "no 1. gear" second where that gear
-- is 1. And no run holds a stop. Assumes nothing.
use mathlib.Core.Path.{◌≡◌, refl, sym, ap, ◌∙◌}
use mathlib.Core.Bool.{Bool, true, false, not, cond, ◌&&◌, false≢true}
use mathlib.Core.List.{List}
use Prim.Native.Nat.{ℕ, ◌+◌, ◌-◌, ◌≤◌, ◌<◌}
use native.Mathlib.Decide.{dec_lt}
use native.Mathlib.Omega.{arith}
use borrow.Author.Tests.{leb-false, eqb-true, eqb-false, eq-eqb, not-true}
use lib.Dec.{eqb, leb}
use Rattle.refusal.proofs.Ranges.{both}
use Rattle.walk.proofs.Walk.{scan-all}
use Rattle.walk.proofs.Ends.{search-ends}
use Rattle.house.specs.House.{stop_at, no_first_at}
use Rattle.row.specs.Row.{gear_at}
use Rattle.runs.specs.Runs.{goes_on, end_at, has_no_first, takes}

-- a run holds no stop second
pub run-drives : (trace row : List ℕ) (n start : ℕ) → stop_at trace start ≡ false → (k : ℕ) → start ≤ k → k < end_at trace row n start → stop_at trace k ≡ false
run-drives trace row n start drive k h l = go (dec_lt start k)
  where
    goes : ℕ → Bool
    goes = goes_on trace row (gear_at row start)

    go : Dec (start < k) → stop_at trace k ≡ false
    go (yes past) =
        let on = (search-ends goes _ (start + 1) (n - (start + 1)) refl).inside k (omega arith) l in
        not-true (stop_at trace k) (both (not (stop_at trace k)) (eqb (gear_at row k) (gear_at row start)) on).0
    go (no here) =
        let same : k ≡ start = omega arith in
        ap (stop_at trace) same ∙ drive

pub record Taken (trace row : List ℕ) (n start end : ℕ) : Type 0 where
  pub inside : (0 < start) × (end < n)
  pub beside : stop_at trace end ≡ false
  pub same : gear_at row (start - 1) ≡ gear_at row end
  pub allowed : gear_at row end ≡ 1 → (j : ℕ) → j < end - start → no_first_at trace (start + j) ≡ false

cond-false : (b x : Bool) → cond b false x ≡ true → (b ≡ false) × (x ≡ true)
cond-false true x e = absurd (false≢true e)
cond-false false x e = (refl, e)

pub taken : (trace row : List ℕ) (n start end : ℕ) → takes trace row n start end ≡ true → Taken trace row n start end
unfolding takes
taken trace row n start end e =
    let calm = not (stop_at trace (start - 1)) in
    let free = not (stop_at trace end) in
    let short = leb (end - start) 4 in
    let equal = eqb (gear_at row (start - 1)) (gear_at row end) in
    let none = eqb (gear_at row end) 1 && has_no_first trace start (end - start) in
    let past = cond-false (eqb start 0) _ e in
    let more = cond-false (leb n end) (calm && free && short && equal && not none) past.1 in
    let five = both (calm && free && short && equal) (not none) more.1 in
    let four = both (calm && free && short) equal five.0 in
    let three = both (calm && free) short four.0 in
    let some : start ≡ 0 → ⊥ = eqb-false start 0 past.0 in
    let room : end < n = leb-false n end more.0 in
    record {
      inside = (omega arith, room);
      beside = not-true (stop_at trace end) (both calm free three.0).1;
      same = eqb-true (gear_at row (start - 1)) (gear_at row end) four.1;
      allowed = λ one j l.
          not-true (no_first_at trace (start + j))
          (scan-all (λ k. not (no_first_at trace k)) (λ k. true) (λ k. false) false (λ k f. false≢true (sym f)) start (end - start)
          (unmarked (eqb (gear_at row end) 1) (has_no_first trace start (end - start)) (eq-eqb (gear_at row end) 1 one) (not-true none five.1)) j l);
    }
  where
    unmarked : (a b : Bool) → a ≡ true → a && b ≡ false → b ≡ false
    unmarked true b t f = f
    unmarked false b t f = absurd (false≢true t)
