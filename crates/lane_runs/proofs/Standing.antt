-- What a lane keeps of its run is what the live engine has pending: a run that stays, or could take gear 1 alone and must not, has 0 on its left. Assumes nothing.
use mathlib.Core.Path.{◌≡◌, refl, sym, ap, ◌∙◌}
use mathlib.Core.Bool.{Bool, true, false, not, cond, ◌&&◌, ◌||◌}
use Prim.Native.Nat.{ℕ, ◌+◌, ◌≤◌, ◌<◌}
use native.Mathlib.Decide.{dec_lt}
use native.Mathlib.Omega.{arith}
use borrow.Author.Tests.{eq-eqb, ne_eqb, eqb-true, eqb-false, lt-ltb, le-ltb}
use lib.Dec.{eqb, ltb}
use Rattle.house.specs.House.{stop, no_first}
use Rattle.live.specs.declared.Pending.{Pending}
use Rattle.live.specs.Live.{mark_of, has_mark, opened, longer, takes_over, reach, pending_after}
use Rattle.live.proofs.Judged.{right-false}
use Rattle.live.proofs.Cases.{
  mark-of,
  over_none,
  over-other,
  over-is,
  reach-none,
  reach-all,
  after-goes,
  after-takes,
  after-opens,
  longer-none,
  longer-full,
  longer-more,
}
use Rattle.lane_runs.specs.Runs.{reach_by, left_after, count_after}

pub data Stand (p : Pending) (count left : ℕ) : Type 0 where
  rests : left ≡ 0 → p.count ≡ 0 → Stand p count left
  barred : left ≡ 0 → p.left ≡ 1 → has_mark p ≡ true → Stand p count left
  waits : left ≡ p.left → count ≡ p.count → 0 < p.count → p.count ≤ 4 → (p.left ≡ 0 → ⊥) → (p.left ≡ 1 → has_mark p ≡ false) → Stand p count left

none_left : (b : Bool) (left : ℕ) → left ≡ 0 → cond b 0 left ≡ 0
none_left true left e = refl
none_left false left e = e

-- ---- a second of the gear, outside stops
module _ (p : Pending) (flags gear : ℕ) (drive : stop flags ≡ false) (some : gear ≡ 0 → ⊥) where
  over-barred : p.left ≡ 1 → has_mark p ≡ true → takes_over p flags gear ≡ false
  unfolding takes_over
  over-barred left mark = go (eqb gear 1) refl
    where
      go : (b : Bool) → eqb gear 1 ≡ b → takes_over p flags gear ≡ false
      go true e = right-false (ltb 0 p.count && not (stop flags) && eqb p.left gear) (not (eqb gear 1 && has_mark p)) (rw (e, mark))
      go false e = over-other p flags gear (λ (z : p.left ≡ gear). eqb-false gear 1 e (sym z ∙ left))

  over-waits : 0 < p.count → (p.left ≡ 1 → has_mark p ≡ false) → takes_over p flags gear ≡ eqb p.left gear
  over-waits one free = over-is p flags gear one drive ∙ go (eqb p.left gear) (eqb gear 1) refl refl
    where
      go : (b c : Bool) → eqb p.left gear ≡ b → eqb gear 1 ≡ c → b && not (c && has_mark p) ≡ b
      go false c e f = refl
      go true false e f = refl
      go true true e f =
          let mark = free (eqb-true p.left gear e ∙ eqb-true gear 1 f) in
          ap not mark

  reach-by : (b : Bool) (count left : ℕ) → takes_over p flags gear ≡ b → eqb left gear ≡ b → p.count ≡ count → reach p flags gear ≡ reach_by count left gear
  reach-by true count left over e same = reach-all p flags gear over ∙ same ∙ sym (ap (λ (b : Bool). cond b count 0) e)
  reach-by false count left over e same = reach-none p flags gear over ∙ sym (ap (λ (b : Bool). cond b count 0) e)

  -- how many seconds take the gear
  no-gear : (left : ℕ) → left ≡ 0 → eqb left gear ≡ false
  no-gear left e = ne_eqb left gear (λ (z : left ≡ gear). some (sym z ∙ e))

  pub reach-same : (count left : ℕ) → Stand p count left → reach p flags gear ≡ reach_by count left gear
  reach-same count left (rests e none) =
      reach-none p flags gear (over_none p flags gear none) ∙ sym (ap (λ (b : Bool). cond b count 0) (no-gear left e))
  reach-same count left (barred e one mark) =
      reach-none p flags gear (over-barred one mark) ∙ sym (ap (λ (b : Bool). cond b count 0) (no-gear left e))
  reach-same count left (waits e same one few gear' free) =
      reach-by (eqb left gear) count left (over-waits one free ∙ ap (λ (x : ℕ). eqb x gear) (sym e)) refl (sym same)

  pub reach_few : (count left : ℕ) → Stand p count left → reach p flags gear ≤ 4
  reach_few count left (rests e none) = omega (arith, reach-none p flags gear (over_none p flags gear none))
  reach_few count left (barred e one mark) = omega (arith, reach-none p flags gear (over-barred one mark))
  reach_few count left (waits e same one few gear' free) = go (takes_over p flags gear) refl
    where
      go : (b : Bool) → takes_over p flags gear ≡ b → reach p flags gear ≤ 4
      go true over = omega (arith, reach-all p flags gear over)
      go false over = omega (arith, reach-none p flags gear over)

  -- ---- what is then pending, behind a second of the gear `before`
  module _ (former before : ℕ) (moving : stop former ≡ false) (drove : before ≡ 0 → ⊥) where
    abbrev marked : Bool
    marked = no_first flags

    abbrev left_then : ℕ → ℕ → ℕ
    left_then count left = left_after marked count left before gear

    abbrev count_then : ℕ → ℕ
    count_then count = count_after count before gear

    abbrev Then : Pending → ℕ → ℕ → Type 0
    Then q count left = Stand q (count_then count) (left_then count left)

    -- the run goes on
    module _ (goes : gear ≡ before) where
      left-goes : (count left : ℕ) → left_then count left ≡ cond (ltb 3 count || (marked && eqb left 1)) 0 left
      left-goes count left = ap (λ (b : Bool). cond b (cond (ltb 3 count || (marked && eqb left 1)) 0 left) (cond (eqb left gear || (marked && eqb before 1)) 0 before)) (eq-eqb gear before goes)

      still : (q : Pending) (count left : ℕ) → left ≡ 0 → q.count ≡ 0 → Then q count left
      still q count left e none = rests (left-goes count left ∙ none_left (ltb 3 count || (marked && eqb left 1)) left e) none

      barred-on : (count left : ℕ) → left ≡ 0 → p.left ≡ 1 → has_mark p ≡ true → Then (longer p flags) count left
      barred-on count left e one mark = go (dec_lt 0 p.count) (dec_lt p.count 4)
        where
          zero_left : left_then count left ≡ 0
          zero_left = left-goes count left ∙ none_left (ltb 3 count || (marked && eqb left 1)) left e

          go : Dec (0 < p.count) → Dec (p.count < 4) → Then (longer p flags) count left
          go (no none) few = rests zero_left (ap (λ (q : Pending). q.count) (longer-none p flags (omega arith)))
          go (yes some) (no full) = rests zero_left (ap (λ (q : Pending). q.count) (longer-full p flags (omega arith)))
          go (yes some) (yes few) =
              let is = longer-more p flags some few in
              barred zero_left (ap (λ (q : Pending). q.left) is ∙ one)
              (ap has_mark is ∙ mark-of (has_mark p || no_first flags) ∙ ap (λ (b : Bool). b || no_first flags) mark)

      waits-on : (count left : ℕ) → left ≡ p.left → count ≡ p.count → 0 < p.count → p.count ≤ 4 → (p.left ≡ 0 → ⊥) → (p.left ≡ 1 → has_mark p ≡ false)
          → Then (longer p flags) count left
      waits-on count left e same one few gear' free = go (dec_lt p.count 4)
        where
          go : Dec (p.count < 4) → Then (longer p flags) count left
          go (no full) =
              rests (left-goes count left ∙ ap (λ (b : Bool). cond (b || (marked && eqb left 1)) 0 left) (lt-ltb 3 count (omega arith)))
              (ap (λ (q : Pending). q.count) (longer-full p flags (omega arith)))
          go (yes short) = by marked (eqb left 1) refl refl
            where
              more : longer p flags ≡ record { count = p.count + 1; left = p.left; marked = mark_of (has_mark p || no_first flags) }
              more = longer-more p flags one short

              mark-is : has_mark (longer p flags) ≡ has_mark p || no_first flags
              mark-is = ap has_mark more ∙ mark-of (has_mark p || no_first flags)

              left_is : left_then count left ≡ cond (marked && eqb left 1) 0 left
              left_is = left-goes count left ∙ ap (λ (b : Bool). cond (b || (marked && eqb left 1)) 0 left) (le-ltb 3 count (omega arith))

              count-is : count_then count ≡ (longer p flags).count
              count-is =
                  ap (λ (b : Bool). cond b (cond (ltb count 5) (count + 1) count) 1) (eq-eqb gear before goes)
                  ∙ ap (λ (b : Bool). cond b (count + 1) count) (lt-ltb count 5 (omega arith))
                  ∙ ap (λ (n : ℕ). n + 1) same
                  ∙ sym (ap (λ (q : Pending). q.count) more)

              goes_on_lem : cond (marked && eqb left 1) 0 left ≡ left → (p.left ≡ 1 → no_first flags ≡ false) → Then (longer p flags) count left
              goes_on_lem keeps unmarked =
                  let counted = ap (λ (q : Pending). q.count) more in
                  let beside = ap (λ (q : Pending). q.left) more in
                  waits (left_is ∙ keeps ∙ e ∙ sym beside) count-is (omega arith) (omega arith) (λ z. gear' (sym beside ∙ z))
                  (λ z.
                  let first = sym beside ∙ z in
                  let none = free first in
                  let bare = unmarked first in
                  mark-is ∙ (λ i. none i || bare i))

              or-true : (b : Bool) → (b || true) ≡ true
              or-true true = refl
              or-true false = refl

              by : (m f : Bool) → no_first flags ≡ m → eqb left 1 ≡ f → Then (longer p flags) count left
              by true true mark first =
                  barred (left_is ∙ (λ i. cond (mark i && first i) 0 left)) (ap (λ (q : Pending). q.left) more ∙ sym e ∙ eqb-true left 1 first)
                  (mark-is ∙ ap (λ (b : Bool). has_mark p || b) mark ∙ or-true (has_mark p))
              by true false mark first =
                  goes_on_lem (λ i. cond (mark i && first i) 0 left) (λ z. absurd (eqb-false left 1 first (e ∙ z)))
              by false f mark first = goes_on_lem (ap (λ (b : Bool). cond (b && eqb left 1) 0 left) mark) (λ z. mark)

      pub stand-goes : (count left : ℕ) → Stand p count left → Then (pending_after p former before flags gear) count left
      stand-goes count left s = rw (after-goes p flags gear former before drive moving goes) (go s)
        where
          go : Stand p count left → Then (longer p flags) count left
          go (rests e none) = still (longer p flags) count left e (ap (λ (q : Pending). q.count) (longer-none p flags none))
          go (barred e one mark) = barred-on count left e one mark
          go (waits e same one few gear' free) = waits-on count left e same one few gear' free

    -- the run ends
    module _ (ends : gear ≡ before → ⊥) where
      left-ends : (count left : ℕ) → left_then count left ≡ cond (eqb left gear || (marked && eqb before 1)) 0 before
      left-ends count left = ap (λ (b : Bool). cond b (cond (ltb 3 count || (marked && eqb left 1)) 0 left) (cond (eqb left gear || (marked && eqb before 1)) 0 before)) (ne_eqb gear before ends)

      -- and another waits
      opens : (count left : ℕ) → takes_over p flags gear ≡ false → eqb left gear ≡ false → Then (pending_after p former before flags gear) count left
      opens count left over other =
          rw (after-opens p flags gear former before drive moving ends over) (by marked (eqb before 1) refl refl)
        where
          left_is : left_then count left ≡ cond (marked && eqb before 1) 0 before
          left_is = left-ends count left ∙ ap (λ (b : Bool). cond (b || (marked && eqb before 1)) 0 before) other

          count-is : count_then count ≡ 1
          count-is = ap (λ (b : Bool). cond b (cond (ltb count 5) (count + 1) count) 1) (ne_eqb gear before ends)

          waits-new : cond (marked && eqb before 1) 0 before ≡ before → (before ≡ 1 → no_first flags ≡ false) → Then (opened before flags) count left
          waits-new keeps unmarked = waits (left_is ∙ keeps) count-is (omega arith) (omega arith) drove (λ z. mark-of (no_first flags) ∙ unmarked z)

          by : (m f : Bool) → no_first flags ≡ m → eqb before 1 ≡ f → Then (opened before flags) count left
          by true true mark first = barred (left_is ∙ (λ i. cond (mark i && first i) 0 before)) (eqb-true before 1 first) (mark-of (no_first flags) ∙ mark)
          by true false mark first = waits-new (λ i. cond (mark i && first i) 0 before) (λ z. absurd (eqb-false before 1 first z))
          by false f mark first = waits-new (ap (λ (b : Bool). cond (b && eqb before 1) 0 before) mark) (λ z. mark)

      taken : (count left : ℕ) → takes_over p flags gear ≡ true → eqb left gear ≡ true → Then (pending_after p former before flags gear) count left
      taken count left over same =
          rw (after-takes p flags gear former before drive moving ends over)
          (rests (left-ends count left ∙ ap (λ (b : Bool). cond (b || (marked && eqb before 1)) 0 before) same) refl)

      pub stand-ends : (count left : ℕ) → Stand p count left → Then (pending_after p former before flags gear) count left
      stand-ends count left (rests e none) = opens count left (over_none p flags gear none) (no-gear left e)
      stand-ends count left (barred e one mark) = opens count left (over-barred one mark) (no-gear left e)
      stand-ends count left (waits e same one few gear' free) = go (eqb left gear) refl
        where
          over : takes_over p flags gear ≡ eqb left gear
          over = over-waits one free ∙ ap (λ (x : ℕ). eqb x gear) (sym e)

          go : (b : Bool) → eqb left gear ≡ b → Then (pending_after p former before flags gear) count left
          go true is = taken count left (over ∙ is) is
          go false is = opens count left (over ∙ is) is

    pub stand-next : (count left : ℕ) → Stand p count left → Then (pending_after p former before flags gear) count left
    stand-next count left s = go (eqb gear before) refl
      where
        go : (b : Bool) → eqb gear before ≡ b → Then (pending_after p former before flags gear) count left
        go true e = stand-goes (eqb-true gear before e) count left s
        go false e = stand-ends (eqb-false gear before e) count left s
