-- The edges of the masses, and rows of the rule, by the definition itself. Assumes nothing.
use mathlib.Core.Path.{◌≡◌, refl}
use Prim.Native.Nat.{ℕ}
use Rattle.std.specs.Prelude.{Result, Ok, Err}
use Rattle.refusal.specs.declared.Refusal.{Refusal}
use Rattle.refusal.specs.declared.Refusal.TheVariants.{ReferenceMass}
use Rattle.setting.specs.declared.Setting.{Setting}
use Rattle.setting.specs.Annex3.{inertia_of, rounded, setting_answer}

abbrev given : ℕ → ℕ → ℕ → Result Setting Refusal
given inertia resistance drag = Ok (record { inertia = inertia; resistance = resistance; drag = drag })

-- "A mass of exactly 105.0 kg belongs to 100, and 105.1 to 110"; above 95, up to 1,000; where the table ended
masses : (setting_answer 950 ≡ Err ReferenceMass)
    × (setting_answer 951 ≡ given 100 88 215)
    × (setting_answer 1050 ≡ given 100 88 215)
    × (setting_answer 1051 ≡ given 110 97 217)
    × (setting_answer 5050 ≡ given 500 440 275)
    × (setting_answer 5051 ≡ given 510 449 277)
    × (setting_answer 10000 ≡ given 1000 880 350)
    × (setting_answer 10001 ≡ Err ReferenceMass)
unfolding setting_answer inertia_of rounded
masses = (refl, refl, refl, refl, refl, refl, refl, refl)
