-- Correction 6, and so all six, see of a trace its flags alone. Assumes nothing.
use mathlib.Core.Path.{◌≡◌, refl, ap, ◌∙◌}
use mathlib.Core.Bool.{true, false, not, cond, ◌&&◌}
use mathlib.Core.List.{List}
use Prim.Native.Nat.{ℕ, zero, suc, ◌+◌, ◌-◌}
use lib.Dec.{eqb, leb, ltb}
use Rattle.walk.proofs.Same.{scan-same}
use Rattle.house.specs.House.{flags_at, stop, stop_at, no_first, no_first_at}
use Rattle.row.specs.declared.Rule.TheVariants.{NoFirst, NoShift, NoDrop, OneStep}
use Rattle.row.specs.Row.{gear_at}
use Rattle.row.specs.Corrections.{cap_runs, pass_by}
use Rattle.row.proofs.Alike.{caps-alike, pass-alike}
use Rattle.runs.specs.Runs.{goes_on, end_at, has_no_first, filled, takes, run_judged, run_next, row_after, next_after, smooth, smoothed}
use Rattle.runs.specs.Corrected.{corrected}

module _ (t u : List ℕ) (same : (k : ℕ) → flags_at t k ≡ flags_at u k) where
  ends-alike : (row : List ℕ) (n start : ℕ) → end_at t row n start ≡ end_at u row n start
  ends-alike row n start =
      let gear = gear_at row start in
      scan-same (λ k. k) (λ k. k) (goes_on t row gear) (goes_on u row gear) (start + 1) (n - (start + 1)) (λ j l. (λ i. not (stop (same j i)) && eqb (gear_at row j) gear))

  marks-alike : (start count : ℕ) → has_no_first t start count ≡ has_no_first u start count
  marks-alike start count =
      scan-same (λ k. true) (λ k. false) (λ k. not (no_first_at t k)) (λ k. not (no_first_at u k)) start count (λ j l. (λ i. not (no_first (same j i))))

  takes-alike : (row : List ℕ) (n start end : ℕ) → takes t row n start end ≡ takes u row n start end
  unfolding takes
  takes-alike row n start end =
      (λ i. cond (eqb start 0) false (cond (leb n end) false
      (not (stop (same (start - 1) i)) && not (stop (same end i)) && leb (end - start) 4 && eqb (gear_at row (start - 1)) (gear_at row end)
      && not (eqb (gear_at row end) 1 && marks-alike start (end - start) i))))

  judged-alike : (row : List ℕ) (n start end : ℕ) → run_judged t row n start end ≡ run_judged u row n start end
  unfolding run_judged
  judged-alike row n start end = (λ i. cond (takes-alike row n start end i) (filled row start (gear_at row end) (end - start)) row)

  next-alike : (row : List ℕ) (n start end : ℕ) → run_next t row n start end ≡ run_next u row n start end
  unfolding run_next
  next-alike row n start end =
      (λ i. cond (takes-alike row n start end i) (ends-alike (filled row start (gear_at row end) (end - start)) n end i) end)

  row-after-alike : (row : List ℕ) (n start : ℕ) → row_after t row n start ≡ row_after u row n start
  unfolding row_after
  row-after-alike row n start =
      (λ i. cond (stop (same start i)) row (run_judged t row n start (ends-alike row n start i)))
      ∙ ap (cond (stop_at u start) row) (judged-alike row n start (end_at u row n start))

  next-after-alike : (row : List ℕ) (n start : ℕ) → next_after t row n start ≡ next_after u row n start
  unfolding next_after
  next-after-alike row n start =
      (λ i. cond (stop (same start i)) (start + 1) (run_next t row n start (ends-alike row n start i)))
      ∙ ap (cond (stop_at u start) (start + 1)) (next-alike row n start (end_at u row n start))

  smooth-alike : (n : ℕ) (row : List ℕ) (start fuel : ℕ) → smooth t n row start fuel ≡ smooth u n row start fuel
  unfolding smooth
  smooth-alike n row start zero = refl
  smooth-alike n row start (suc fuel) =
      ap (λ (l : List ℕ). cond (ltb start n) l row)
      ((λ i. smooth t n (row-after-alike row n start i) (next-after-alike row n start i) fuel) ∙ smooth-alike n (row_after u row n start) (next_after u row n start) fuel)

  smoothed-alike : (row : List ℕ) (n : ℕ) → smoothed t row n ≡ smoothed u row n
  unfolding smoothed
  smoothed-alike row n = smooth-alike n row 0 n

  pub corrected-alike : (row : List ℕ) (n : ℕ) → corrected t row n ≡ corrected u row n
  corrected-alike row n =
      let one = caps-alike t u same row n in
      let two = ap (λ (r : List ℕ). pass_by NoFirst t r n) one ∙ pass-alike t u same NoFirst (cap_runs u row n) n in
      let three = ap (λ (r : List ℕ). pass_by NoShift t r n) two ∙ pass-alike t u same NoShift _ n in
      let four = ap (λ (r : List ℕ). pass_by NoDrop t r n) three ∙ pass-alike t u same NoDrop _ n in
      let five = ap (λ (r : List ℕ). pass_by OneStep t r n) four ∙ pass-alike t u same OneStep _ n in
      ap (λ (r : List ℕ). smoothed t r n) five ∙ smoothed-alike _ n
