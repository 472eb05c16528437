-- The parts of correction 6 over plain places: where a search ends, when a run takes the gear beside it, and what a filled run holds. Assumes nothing.
use mathlib.Core.Path.{◌≡◌, refl, sym, ap, ◌∙◌}
use mathlib.Core.Bool.{Bool, true, false, not, cond, ◌&&◌, ◌||◌, false≢true}
use mathlib.Core.List.{List}
use Prim.Native.Nat.{ℕ, zero, suc, ◌+◌, ◌-◌, ◌≤◌, ◌<◌}
use native.Mathlib.Omega.{arith}
use borrow.Author.Tests.{eqb-true, eq-eqb, ne_eqb, le-leb, lt-leb, not-true}
use lib.Dec.{eqb, leb}
use Rattle.refusal.proofs.Ranges.{both}
use Rattle.house.specs.House.{stop_at, no_first_at}
use Rattle.row.specs.Row.{gear_at}
use Rattle.runs.specs.Runs.{goes_on, has_no_first, takes}

-- ---- Bools
pub right-false : (a b : Bool) → b ≡ false → a && b ≡ false
right-false true b e = e
right-false false b e = refl

pub left_false : (a b : Bool) → a ≡ false → a && b ≡ false
left_false a b e = rw e

-- ---- a run goes on
module _ (trace row : List ℕ) (gear k : ℕ) where
  pub goes_by : stop_at trace k ≡ false → gear_at row k ≡ gear → goes_on trace row gear k ≡ true
  goes_by drive e = rw (drive, eq-eqb (gear_at row k) gear e)

  pub goes-tells : goes_on trace row gear k ≡ true → (stop_at trace k ≡ false) × (gear_at row k ≡ gear)
  goes-tells e =
      let parts = both (not (stop_at trace k)) (eqb (gear_at row k) gear) e in
      (not-true (stop_at trace k) parts.0, eqb-true (gear_at row k) gear parts.1)

  pub ends-by-stop : stop_at trace k ≡ true → goes_on trace row gear k ≡ false
  ends-by-stop halt = rw halt

  pub ends-by-gear : (gear_at row k ≡ gear → ⊥) → goes_on trace row gear k ≡ false
  ends-by-gear other = right-false (not (stop_at trace k)) (eqb (gear_at row k) gear) (ne_eqb (gear_at row k) gear other)

  pub other-gear : goes_on trace row gear k ≡ false → stop_at trace k ≡ false → gear_at row k ≡ gear → ⊥
  other-gear e drive same = false≢true (sym e ∙ goes_by drive same)

-- ---- when a run takes the gear beside it
never : (a b c : Bool) → c ≡ false → cond a false (cond b false c) ≡ false
never true b c e = refl
never false true c e = refl
never false false c e = e

module _ (trace row : List ℕ) (n start end : ℕ) where
  abbrev calm : Bool
  calm = not (stop_at trace (start - 1))

  abbrev free : Bool
  free = not (stop_at trace end)

  abbrev short : Bool
  short = leb (end - start) 4

  abbrev equal : Bool
  equal = eqb (gear_at row (start - 1)) (gear_at row end)

  abbrev allowed : Bool
  allowed = not (eqb (gear_at row end) 1 && has_no_first trace start (end - start))

  pub takes_first : start ≡ 0 → takes trace row n start end ≡ false
  unfolding takes
  takes_first e = rw (eq-eqb start 0 e)

  pub takes-last : n ≤ end → takes trace row n start end ≡ false
  unfolding takes
  takes-last h = go (eqb start 0)
    where
      go : (b : Bool) → cond b false (cond (leb n end) false (calm && free && short && equal && allowed)) ≡ false
      go true = refl
      go false = rw (le-leb n end h)

  pub takes-behind-stop : stop_at trace (start - 1) ≡ true → takes trace row n start end ≡ false
  unfolding takes
  takes-behind-stop e = never (eqb start 0) (leb n end) _ (rw e)

  pub takes-before-stop : stop_at trace end ≡ true → takes trace row n start end ≡ false
  unfolding takes
  takes-before-stop e =
      never (eqb start 0) (leb n end) _
      (left_false (calm && free && short && equal) allowed
      (left_false (calm && free && short) equal (left_false (calm && free) short (right-false calm free (ap not e)))))

  pub takes-long : 4 < end - start → takes trace row n start end ≡ false
  unfolding takes
  takes-long h =
      never (eqb start 0) (leb n end) _
      (left_false (calm && free && short && equal) allowed
      (left_false (calm && free && short) equal (right-false (calm && free) short (lt-leb (end - start) 4 h))))

  pub takes-is : (start ≡ 0 → ⊥) → end < n → stop_at trace (start - 1) ≡ false → stop_at trace end ≡ false → end - start ≤ 4
      → takes trace row n start end ≡ equal && allowed
  unfolding takes
  takes-is some room left right few =
      rw (ne_eqb start 0 some, lt-leb n end room, left, right, le-leb (end - start) 4 few)

-- ---- a "no 1. gear" second among so many, and one more
pub one_more : (trace : List ℕ) (start count : ℕ) → has_no_first trace start (suc count) ≡ has_no_first trace start count || no_first_at trace (start + count)
one_more trace start zero =
    let same : start ≡ start + 0 = omega arith in
    go (no_first_at trace start) ∙ ap (no_first_at trace) same
  where
    go : (b : Bool) → cond (not b) false true ≡ b
    go true = refl
    go false = refl
one_more trace start (suc count) = go (no_first_at trace start) (one_more trace (start + 1) count)
  where
    go : (b : Bool) → has_no_first trace (start + 1) (suc count) ≡ has_no_first trace (start + 1) count || no_first_at trace (start + 1 + count)
        → cond (not b) (has_no_first trace (start + 1) (suc count)) true ≡ cond (not b) (has_no_first trace (start + 1) count) true || no_first_at trace (start + suc count)
    go true e = refl
    go false e =
        let same : start + 1 + count ≡ start + suc count = omega arith in
        e ∙ ap (λ (k : ℕ). has_no_first trace (start + 1) count || no_first_at trace k) same
