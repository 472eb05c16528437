-- What the live engine does about a run, over plain numbers: the cases of `specs/Live.antt`. Assumes nothing.
use mathlib.Core.Path.{◌≡◌, refl, ap, ◌∙◌}
use mathlib.Core.Bool.{Bool, true, false, not, cond, ◌&&◌, ◌||◌}
use Prim.Native.Nat.{ℕ, ◌+◌, ◌≤◌, ◌<◌}
use native.Mathlib.Omega.{arith}
use borrow.Author.Tests.{eq-eqb, ne_eqb, lt-ltb, le-ltb}
use lib.Dec.{eqb, ltb}
use Rattle.house.specs.House.{stop, no_first}
use Rattle.live.specs.declared.Pending.{Pending}
use Rattle.live.specs.Live.{mark_of, has_mark, stays, opened, longer, takes_over, reach, pending_after}
use Rattle.live.proofs.Judged.{right-false, left_false}

pub mark-of : (b : Bool) → ltb 0 (mark_of b) ≡ b
mark-of true = refl
mark-of false = refl

-- of two tests, the second
either_stays : (a b : Bool) (rest : Pending) → b ≡ true → cond a stays (cond b stays rest) ≡ stays
either_stays true b rest e = refl
either_stays false b rest e = rw e

module _ (p : Pending) (flags gear : ℕ) where
  -- ---- whether it takes the gear
  pub over_none : p.count ≡ 0 → takes_over p flags gear ≡ false
  unfolding takes_over
  over_none e = rw (le-ltb 0 p.count (omega arith))

  pub over-stop : stop flags ≡ true → takes_over p flags gear ≡ false
  unfolding takes_over
  over-stop e =
      left_false (ltb 0 p.count && not (stop flags) && eqb p.left gear) (not (eqb gear 1 && has_mark p))
      (left_false (ltb 0 p.count && not (stop flags)) (eqb p.left gear) (right-false (ltb 0 p.count) (not (stop flags)) (ap not e)))

  pub over-other : (p.left ≡ gear → ⊥) → takes_over p flags gear ≡ false
  unfolding takes_over
  over-other other =
      left_false (ltb 0 p.count && not (stop flags) && eqb p.left gear) (not (eqb gear 1 && has_mark p))
      (right-false (ltb 0 p.count && not (stop flags)) (eqb p.left gear) (ne_eqb p.left gear other))

  pub over-is : 0 < p.count → stop flags ≡ false → takes_over p flags gear ≡ eqb p.left gear && not (eqb gear 1 && has_mark p)
  unfolding takes_over
  over-is some drive = rw (lt-ltb 0 p.count some, drive)

  -- ---- how far that reaches
  pub reach-none : takes_over p flags gear ≡ false → reach p flags gear ≡ 0
  unfolding reach
  reach-none e = rw e

  pub reach-all : takes_over p flags gear ≡ true → reach p flags gear ≡ p.count
  unfolding reach
  reach-all e = rw e

  -- ---- what is then pending
  module _ (former before : ℕ) where
    pub after_stop : stop flags ≡ true → pending_after p former before flags gear ≡ stays
    unfolding pending_after
    after_stop e = rw e

    pub after-former : stop former ≡ true → pending_after p former before flags gear ≡ stays
    unfolding pending_after
    after-former e = either_stays (stop flags) (stop former) _ e

    module _ (drive : stop flags ≡ false) (moving : stop former ≡ false) where
      pub after-goes : gear ≡ before → pending_after p former before flags gear ≡ longer p flags
      unfolding pending_after
      after-goes e = rw (drive, moving, eq-eqb gear before e)

      pub after-takes : (gear ≡ before → ⊥) → takes_over p flags gear ≡ true → pending_after p former before flags gear ≡ stays
      unfolding pending_after
      after-takes other e = rw (drive, moving, ne_eqb gear before other, e)

      pub after-opens : (gear ≡ before → ⊥) → takes_over p flags gear ≡ false → pending_after p former before flags gear ≡ opened before flags
      unfolding pending_after
      after-opens other e = rw (drive, moving, ne_eqb gear before other, e)

module _ (p : Pending) (flags : ℕ) where
  pub longer-none : p.count ≡ 0 → longer p flags ≡ stays
  unfolding longer
  longer-none e = rw (le-ltb 0 p.count (omega arith))

  pub longer-full : 4 ≤ p.count → longer p flags ≡ stays
  unfolding longer
  longer-full h = rw (lt-ltb 0 p.count (omega arith), le-ltb p.count 4 h)

  pub longer-more : 0 < p.count → p.count < 4 → longer p flags ≡ record { count = p.count + 1; left = p.left; marked = mark_of (has_mark p || no_first flags) }
  unfolding longer
  longer-more some few = rw (lt-ltb 0 p.count some, lt-ltb p.count 4 few)

-- a run that stays goes on staying
pub stays_on : (p : Pending) (former before flags gear : ℕ) → p.count ≡ 0 → stop flags ≡ false → stop former ≡ false → gear ≡ before
    → pending_after p former before flags gear ≡ stays
stays_on p former before flags gear none drive moving e = after-goes p flags gear former before drive moving e ∙ longer-none p flags none
