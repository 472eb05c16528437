-- One second of all lanes: the lines that are put one after the other are what each lane's second asks. Assumes nothing.
use mathlib.Core.Path.{◌≡◌, refl, sym, ap, subst, ◌∙◌}
use mathlib.Core.Bool.{Bool, true, false, cond}
use mathlib.Core.List.{List}
use Prim.Native.Nat.{ℕ, ◌+◌, ◌*◌, ◌<◌, ◌≤◌, min}
use native.Mathlib.Omega.{arith}
use lib.ListN.{length}
use Rattle.house.specs.House.{acceleration, deceleration}
use Rattle.house.proofs.Phases.{deceleration-no-acceleration}
use Rattle.row.specs.declared.Rule.{Rule}
use Rattle.row.specs.declared.Rule.TheVariants.{NoFirst, NoShift, NoDrop, OneStep}
use Rattle.row.specs.Corrections.{uncapped, capped, cap_after, ruled}
use Rattle.lanes.specs.Lanes.{lane_at, line_by}
use Rattle.lanes.specs.Corrections.{cap_lines, rule_line, rule_lines, LaneStepped, Stepped}
use Rattle.lanes.proofs.Lanes.{line-same, line-length, line_other, line_at}

-- the cap of the next second in place of this one's: in a deceleration it is the same, and elsewhere none is looked at
capped-after : (flags cap own : ℕ) → capped flags (cap_after flags cap own) own ≡ capped flags cap own
unfolding capped cap_after
capped-after flags cap own = go (deceleration flags) refl
  where
    go : (d : Bool) → deceleration flags ≡ d → cond d (min own (cond (acceleration flags) own (cond d cap uncapped))) own ≡ cond d (min own cap) own
    go true e = rw (deceleration-no-acceleration flags e)
    go false e = refl

-- correction 1 by the gears of second k, from the line in which they were put
pub cap_lines-by : (flags k : ℕ) (lanes blank line kept caps put : List ℕ) → 16 ≤ length blank → line ≡ line_by (λ m j. lane_at lanes j k) 0 blank 16
    → caps ≡ line_by (λ m j. cap_after flags (lane_at m j 0) (lane_at line j 0)) 0 kept 16
    → put ≡ line_by (λ m j. capped flags (lane_at m j 0) (lane_at line j 0)) 3 caps 16 → put ≡ cap_lines flags lanes k kept
cap_lines-by flags k lanes blank line kept caps put room is a b =
    let same : (j : ℕ) → j < 16 → lane_at line j 0 ≡ lane_at lanes j k =
    λ j l. ap (λ (m : List ℕ). lane_at m j 0) is ∙ line_at (λ m j. lane_at lanes j k) 0 blank (omega (arith, room)) j l (λ m' _. refl) in
    b
    ∙ line-same _ _ (λ m j l. ap (capped flags (lane_at m j 0)) (same j l)) 3 caps 16 (omega arith)
    ∙ ap (λ (m : List ℕ). line_by (λ m j. capped flags (lane_at m j 0) (lane_at lanes j k)) 3 m 16)
    (a ∙ line-same _ _ (λ m j l. ap (cap_after flags (lane_at m j 0)) (same j l)) 0 kept 16 (omega arith))

-- correction 2 does not look at the second before
pub no-before : (first : Bool) (former flags before own : ℕ) → ruled NoFirst first former flags before own ≡ ruled NoFirst first former flags 0 own
unfolding ruled
no-before first former flags before own = refl

module _ (first : Bool) (former flags k : ℕ) (lanes kept : List ℕ) (room : 16 * k + 16 ≤ length lanes) (wide : 80 ≤ length kept) where
  abbrev kept₁ : List ℕ
  kept₁ = line_by (λ m j. cap_after flags (lane_at m j 0) (lane_at lanes j k)) 0 kept 16

  abbrev kept₂ : List ℕ
  kept₂ = cap_lines flags lanes k kept

  abbrev kept₃ : List ℕ
  kept₃ = rule_line NoFirst first former flags 3 3 kept₂

  abbrev kept₄ : List ℕ
  kept₄ = rule_line NoShift first former flags 3 1 kept₃

  abbrev kept₅ : List ℕ
  kept₅ = rule_line NoDrop first former flags 1 2 kept₄

  abbrev kept_after : List ℕ
  kept_after = rule_lines first former flags kept₂

  abbrev lanes_after : List ℕ
  lanes_after = line_by (λ m j. lane_at kept_after j 4) k lanes 16

  long₁ : length kept₁ ≡ length kept
  long₁ = line-length _ 0 kept 16

  long₂ : length kept₂ ≡ length kept
  long₂ = line-length _ 3 kept₁ 16 ∙ long₁

  long₃ : length kept₃ ≡ length kept
  long₃ = line-length _ 3 kept₂ 16 ∙ long₂

  long₄ : length kept₄ ≡ length kept
  long₄ = line-length _ 1 kept₃ 16 ∙ long₃

  long₅ : length kept₅ ≡ length kept
  long₅ = line-length _ 2 kept₄ 16 ∙ long₄

  long₆ : length kept_after ≡ length kept
  long₆ = line-length _ 4 kept₅ 16 ∙ long₅

  -- a line by a rule
  ruled-line : (r : Rule) (own to : ℕ) (m : List ℕ) (j : ℕ) → j < 16 → 16 * to + 16 ≤ length m
      → lane_at (rule_line r first former flags own to m) j to ≡ ruled r first former flags (lane_at m j to) (lane_at m j own)
  ruled-line r own to m j l fits =
      line_at (λ m j. ruled r first former flags (lane_at m j to) (lane_at m j own)) to m fits j l (λ m' same. (λ i. ruled r first former flags (same to i) (same own i)))

  module _ (j : ℕ) (l : j < 16) where
    own : ℕ
    own = lane_at lanes j k

    cap-is : lane_at kept₁ j 0 ≡ cap_after flags (lane_at kept j 0) own
    unfolding own
    cap-is =
        line_at (λ m j. cap_after flags (lane_at m j 0) (lane_at lanes j k)) 0 kept (omega arith) j l
        (λ m' same. ap (λ (cap : ℕ). cap_after flags cap (lane_at lanes j k)) (same 0))

    one-is : lane_at kept₂ j 3 ≡ capped flags (lane_at kept j 0) own
    unfolding own
    one-is =
        line_at (λ m j. capped flags (lane_at m j 0) (lane_at lanes j k)) 3 kept₁ (omega (arith, long₁)) j l
        (λ m' same. ap (λ (cap : ℕ). capped flags cap (lane_at lanes j k)) (same 0))
        ∙ ap (λ (cap : ℕ). capped flags cap (lane_at lanes j k)) cap-is
        ∙ capped-after flags (lane_at kept j 0) (lane_at lanes j k)

    two_is : lane_at kept₃ j 3 ≡ ruled NoFirst first former flags 0 (capped flags (lane_at kept j 0) own)
    two_is =
        ruled-line NoFirst 3 3 kept₂ j l (omega (arith, long₂))
        ∙ no-before first former flags (lane_at kept₂ j 3) (lane_at kept₂ j 3)
        ∙ ap (ruled NoFirst first former flags 0) one-is

    kept-third : lane_at kept₃ j 1 ≡ lane_at kept j 1
    kept-third = line_other _ 3 kept₂ j 1 l (λ e. omega arith) ∙ line_other _ 3 kept₁ j 1 l (λ e. omega arith) ∙ line_other _ 0 kept j 1 l (λ e. omega arith)

    three-is : lane_at kept₄ j 1 ≡ ruled NoShift first former flags (lane_at kept j 1) (ruled NoFirst first former flags 0 (capped flags (lane_at kept j 0) own))
    three-is = ruled-line NoShift 3 1 kept₃ j l (omega (arith, long₃)) ∙ (λ i. ruled NoShift first former flags (kept-third i) (two_is i))

    -- what the lines 2 and 4 have until their turn
    before-four : (i : ℕ) → (i ≡ 0 → ⊥) → (i ≡ 1 → ⊥) → (i ≡ 3 → ⊥) → lane_at kept₄ j i ≡ lane_at kept j i
    before-four i p q r = line_other _ 1 kept₃ j i l q ∙ line_other _ 3 kept₂ j i l r ∙ line_other _ 3 kept₁ j i l r ∙ line_other _ 0 kept j i l p

    four_is : lane_at kept₅ j 2 ≡ ruled NoDrop first former flags (lane_at kept j 2) (lane_at kept₄ j 1)
    four_is =
        ruled-line NoDrop 1 2 kept₄ j l (omega (arith, long₄))
        ∙ ap (λ (x : ℕ). ruled NoDrop first former flags x (lane_at kept₄ j 1)) (before-four 2 (λ e. omega arith) (λ e. omega arith) (λ e. omega arith))

    five-is : lane_at kept_after j 4 ≡ ruled OneStep first former flags (lane_at kept j 4) (lane_at kept₅ j 2)
    five-is =
        ruled-line OneStep 2 4 kept₅ j l (omega (arith, long₅))
        ∙ ap (λ (x : ℕ). ruled OneStep first former flags x (lane_at kept₅ j 2))
        (line_other _ 2 kept₄ j 4 l (λ e. omega arith) ∙ before-four 4 (λ e. omega arith) (λ e. omega arith) (λ e. omega arith))

    -- and at the end
    cap-stays : lane_at kept_after j 0 ≡ lane_at kept₁ j 0
    cap-stays =
        line_other _ 4 kept₅ j 0 l (λ e. omega arith)
        ∙ line_other _ 2 kept₄ j 0 l (λ e. omega arith)
        ∙ line_other _ 1 kept₃ j 0 l (λ e. omega arith)
        ∙ line_other _ 3 kept₂ j 0 l (λ e. omega arith)
        ∙ line_other _ 3 kept₁ j 0 l (λ e. omega arith)

    three-stays : lane_at kept_after j 1 ≡ lane_at kept₄ j 1
    three-stays = line_other _ 4 kept₅ j 1 l (λ e. omega arith) ∙ line_other _ 2 kept₄ j 1 l (λ e. omega arith)

    four-stays : lane_at kept_after j 2 ≡ lane_at kept₅ j 2
    four-stays = line_other _ 4 kept₅ j 2 l (λ e. omega arith)

    lane-stepped : LaneStepped first former flags (lane_at lanes j k) (lane_at kept j 0) (lane_at kept j 1) (lane_at kept j 2) (lane_at kept j 4)
        (lane_at kept_after j 0) (lane_at kept_after j 1) (lane_at kept_after j 2) (lane_at kept_after j 4)
    unfolding own
    lane-stepped = record {
      caps = cap-stays ∙ cap-is;
      thirds = three-stays ∙ three-is;
      fourths = four-stays ∙ four_is ∙ ap (ruled NoDrop first former flags (lane_at kept j 2)) (sym three-stays);
      fifths = five-is ∙ ap (ruled OneStep first former flags (lane_at kept j 4)) (sym four-stays);
    }

  stepped : Stepped first former flags k lanes lanes_after kept kept_after
  stepped = record {
    long = line-length _ k lanes 16;
    long_kept = long₆;
    others = λ j i l apart. line_other _ k lanes j i l apart;
    second = λ j l. line_at (λ m j. lane_at kept_after j 4) k lanes room j l (λ m' same. refl);
    lane = lane-stepped;
  }

  -- by the equations of the three calls
  pub stepped_by : {capped ruled put : List ℕ} → capped ≡ cap_lines flags lanes k kept → ruled ≡ rule_lines first former flags capped
      → put ≡ line_by (λ m j. lane_at ruled j 4) k lanes 16 → Stepped first former flags k lanes put kept ruled
  stepped_by {capped} {ruled} {put} a b c =
      let is : ruled ≡ kept_after = b ∙ ap (rule_lines first former flags) a in
      let there : put ≡ lanes_after = c ∙ ap (λ (kept : List ℕ). line_by (λ m j. lane_at kept j 4) k lanes 16) is in
      subst (λ (kept' : List ℕ). Stepped first former flags k lanes put kept kept') (sym is)
      (subst (λ (lanes' : List ℕ). Stepped first former flags k lanes lanes' kept kept_after) (sym there) stepped)
