-- What corrections 1 to 5 make of one second: a stop keeps its gear; outside stops a gear stays from the least that the second allows to the vehicle's
-- highest. Correction 2 raises the least to 2 on a "no 1. gear" second. Assumes nothing.
use mathlib.Core.Path.{◌≡◌, refl, sym, ap, subst, ◌∙◌}
use mathlib.Core.Bool.{Bool, true, false, not, cond, ◌&&◌, false≢true}
use Prim.Native.Nat.{ℕ, ◌≤◌, min}
use native.Mathlib.Omega.{arith}
use borrow.Author.Tests.{eqb-false}
use lib.Dec.{eqb}
use Rattle.house.specs.House.{stop, acceleration, deceleration, no_first, no_shift}
use Rattle.house.proofs.Phases.{acceleration-drives, deceleration-drives}
use Rattle.row.specs.declared.Rule.{Rule}
use Rattle.row.specs.declared.Rule.TheVariants.{NoFirst, NoShift, NoDrop, OneStep}
use Rattle.row.specs.Corrections.{uncapped, capped, cap_after, not_first, by_rule, ruled}

-- a gear from one to another
pub record FromTo (least most gear : ℕ) : Type 0 where
  pub low : least ≤ gear
  pub high : gear ≤ most

-- the least gear of a second outside stops
abbrev pub least_by : ℕ → ℕ
least_by flags = cond (no_first flags) 2 1

-- what it is before a correction by a rule
abbrev pub least_for : Rule → ℕ → ℕ
least_for NoFirst flags = 1
least_for NoShift flags = least_by flags
least_for NoDrop flags = least_by flags
least_for OneStep flags = least_by flags

pub least-range : (flags : ℕ) → FromTo 1 2 (least_by flags)
least-range flags = go (no_first flags)
  where
    go : (b : Bool) → FromTo 1 2 (cond b 2 1)
    go true = record { low = omega arith; high = omega arith }
    go false = record { low = omega arith; high = omega arith }

pub least-some : (rule : Rule) (flags : ℕ) → 1 ≤ least_for rule flags
least-some NoFirst flags = omega arith
least-some NoShift flags = (least-range flags).low
least-some NoDrop flags = (least-range flags).low
least-some OneStep flags = (least-range flags).low

cond-range : (b : Bool) {least most x y : ℕ} → FromTo least most x → FromTo least most y → FromTo least most (cond b x y)
cond-range true p q = p
cond-range false p q = q

-- ---- correction 1
pub capped-stop : (flags cap own : ℕ) → stop flags ≡ true → capped flags cap own ≡ own
unfolding capped
capped-stop flags cap own halt = go (deceleration flags) refl
  where
    go : (d : Bool) → deceleration flags ≡ d → cond d (min own cap) own ≡ own
    go true e = absurd (false≢true (sym (deceleration-drives flags e) ∙ halt))
    go false e = refl

pub capped-range : {most : ℕ} (flags cap own : ℕ) → 1 ≤ cap → FromTo 1 most own → FromTo 1 most (capped flags cap own)
unfolding capped
capped-range flags cap own some h = cond-range (deceleration flags) (record { low = omega arith; high = omega arith }) h

pub cap-some : (flags cap own : ℕ) → 1 ≤ cap → (stop flags ≡ false → 1 ≤ own) → 1 ≤ cap_after flags cap own
unfolding cap_after
cap-some flags cap own some drives = go (acceleration flags) (deceleration flags) refl
  where
    go : (a d : Bool) → acceleration flags ≡ a → 1 ≤ cond a own (cond d cap uncapped)
    go true d e = drives (acceleration-drives flags e)
    go false true e = some
    go false false e = omega arith

-- ---- corrections 2 to 5
module _ (rule : Rule) (first : Bool) (former flags before own : ℕ) where
  pub ruled-stop : stop flags ≡ true → ruled rule first former flags before own ≡ own
  unfolding ruled
  ruled-stop halt = ap (λ (b : Bool). cond b own (by_rule rule first former flags before own)) halt

  pub ruled-drive : stop flags ≡ false → ruled rule first former flags before own ≡ by_rule rule first former flags before own
  unfolding ruled
  ruled-drive drive = ap (λ (b : Bool). cond b own (by_rule rule first former flags before own)) drive

module _ {most : ℕ} (some : 2 ≤ most) where
  not_first_lem : (flags gear : ℕ) → FromTo 1 most gear → FromTo (least_by flags) most (not_first flags gear)
  not_first_lem flags gear h = go (no_first flags) (eqb gear 1) refl
    where
      go : (b c : Bool) → eqb gear 1 ≡ c → FromTo (cond b 2 1) most (cond (b && c) 2 gear)
      go true true e = record { low = omega arith; high = some }
      go true false e =
          let other : gear ≡ 1 → ⊥ = eqb-false gear 1 e in
          record { low = omega arith; high = omega arith }
      go false c e = h

  by-rule : (rule : Rule) (first : Bool) (former flags before own : ℕ) → FromTo 1 most before → FromTo (least_for rule flags) most own
      → FromTo (least_by flags) most (by_rule rule first former flags before own)
  by-rule NoFirst first former flags before own hb h = not_first_lem flags own h
  by-rule NoShift first former flags before own hb h =
      cond-range (no_shift flags && not first && not (stop former)) (not_first_lem flags before hb) h
  by-rule NoDrop first former flags before own hb h =
      cond-range (acceleration flags && not first && acceleration former) (record { low = omega arith; high = omega arith }) h
  by-rule OneStep first former flags before own hb h =
      let least = least-range flags in
      cond-range first h (record { low = omega arith; high = omega arith })

  pub ruled-range : (rule : Rule) (first : Bool) (former flags before own : ℕ) → stop flags ≡ false → FromTo 1 most before → FromTo (least_for rule flags) most own
      → FromTo (least_by flags) most (ruled rule first former flags before own)
  ruled-range rule first former flags before own drive hb h =
      subst (FromTo (least_by flags) most) (sym (ruled-drive rule first former flags before own drive)) (by-rule rule first former flags before own hb h)
