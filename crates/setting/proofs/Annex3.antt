-- What the rule gives: which masses have a setting, how large a setting is, how near a mass is to its inertia, and that nothing falls with the mass. Assumes nothing.
use mathlib.Core.Path.{◌≡◌, refl, subst}
use mathlib.Core.Bool.{Bool, true, false, cond}
use Prim.Native.Nat.{ℕ, ◌+◌, ◌*◌, ◌≤◌, ◌<◌}
use native.Mathlib.Omega.{arith}
use Rattle.std.specs.Prelude.{Ok, Err}
use Rattle.refusal.specs.declared.Refusal.TheVariants.{ReferenceMass}
use Rattle.refusal.proofs.Ranges.{range}
use Rattle.setting.specs.declared.Setting.{Setting}
use Rattle.setting.specs.Annex3.{inertia_of, rounded, ruled, has_setting, setting_answer}
use Rattle.setting.specs.Setting.{NotBelow, Settled}
use Rattle.setting.proofs.Answer.{refused-no-set, set_same}

-- ---- which masses have a setting
module _ (mass : ℕ) where
  pub has-setting : has_setting mass ≡ true → setting_answer mass ≡ Ok (ruled (inertia_of mass))
  unfolding setting_answer
  has-setting e = rw e

  pub no-setting : has_setting mass ≡ false → setting_answer mass ≡ Err ReferenceMass
  unfolding setting_answer
  no-setting e = rw e

  -- a setting is the rule's, of a mass that has one
  pub is-ruled : {s : Setting} → setting_answer mass ≡ Ok s → (has_setting mass ≡ true) × (ruled (inertia_of mass) ≡ s)
  unfolding setting_answer
  is-ruled {s} e = go (has_setting mass) refl e
    where
      go : (b : Bool) → has_setting mass ≡ b → cond b (Ok (ruled (inertia_of mass))) (Err ReferenceMass) ≡ Ok s
          → (has_setting mass ≡ true) × (ruled (inertia_of mass) ≡ s)
      go true is e = (is, set_same e)
      go false is e = absurd (refused-no-set e)

-- ---- what is so of the rule's settings is so of every setting
of-ruled : (Of : ℕ → Setting → Type 0) → ((mass : ℕ) → 951 ≤ mass → mass ≤ 10000 → Of mass (ruled (inertia_of mass)))
    → (mass : ℕ) {s : Setting} → setting_answer mass ≡ Ok s → Of mass s
of-ruled Of each mass e =
    let is = is-ruled mass e in
    let masses = range 951 10000 mass is.0 in
    subst (Of mass) is.1 (each mass masses.0 masses.1)

pub settled : (mass : ℕ) {s : Setting} → setting_answer mass ≡ Ok s → Settled s
unfolding inertia_of rounded
settled = of-ruled (λ mass. Settled) (λ mass low high. record { inertia = omega arith; some = omega arith; resistance = omega arith; drag = omega arith })

-- within 5 kg, and strictly above the low side. Both in 0.1 kg
pub within-5-kg : (mass : ℕ) {s : Setting} → setting_answer mass ≡ Ok s → (10 * s.inertia < mass + 50) × (mass ≤ 10 * s.inertia + 50)
unfolding inertia_of
within-5-kg = of-ruled (λ mass s. (10 * s.inertia < mass + 50) × (mass ≤ 10 * s.inertia + 50)) (λ mass low high. (omega arith, omega arith))

-- ---- settings never fall with the mass
ruled-never-fall : (m n : ℕ) → m ≤ n → NotBelow (ruled (inertia_of m)) (ruled (inertia_of n))
unfolding inertia_of rounded
ruled-never-fall m n h = record { inertia = omega arith; resistance = omega arith; drag = omega arith }

pub settings-never-fall : (m n : ℕ) → m ≤ n → {s t : Setting} → setting_answer m ≡ Ok s → setting_answer n ≡ Ok t → NotBelow s t
settings-never-fall m n h {s} e f = subst (NotBelow s) (is-ruled n f).1 (subst (λ (s : Setting). NotBelow s (ruled (inertia_of n))) (is-ruled m e).1 (ruled-never-fall m n h))
