-- 001, Annex 3, classification of equivalent inertia mass and running resistance: the rule that is printed under its table, and the reference masses that it is for
-- (02, M-103 and M-111).
use Rattle.std.specs.Prelude.{Bool, cond, ℕ, ◌+◌, ◌*◌, ◌/◌, Result, Ok, Err}
use Rattle.refusal.specs.declared.Refusal.{Refusal}
use Rattle.refusal.specs.declared.Refusal.TheVariants.{ReferenceMass}
use Rattle.refusal.specs.Ranges.{within}
use Rattle.setting.specs.declared.Setting.{Setting}

-- "inertia every 10 kg", in kg, of a mass in 0.1 kg: the nearest, where a mass between two "of exactly 105.0 kg belongs to 100, and 105.1 to 110"
unfoldable pub inertia_of : ℕ → ℕ
inertia_of mass = 10 * ((mass + 49) / 100)

-- a number of hundredths to the nearest whole one, "halves up"
unfoldable pub rounded : ℕ → ℕ
rounded hundredths = (hundredths + 50) / 100

-- "a = 0.088 x inertia to one decimal": in 0.1 N it is 0.88 x inertia
abbrev pub resistance_of : ℕ → ℕ
resistance_of inertia = rounded (88 * inertia)

-- "b = 0.000015 x inertia + 0.02 to four": in 0.0001 N per km/h squared it is 0.15 x inertia + 200
abbrev pub drag_of : ℕ → ℕ
drag_of inertia = rounded (15 * inertia + 20000)

abbrev pub ruled : ℕ → Setting
ruled inertia = record { inertia = inertia; resistance = resistance_of inertia; drag = drag_of inertia }

-- "above 95" (M-103) and "to 1,000 kg reference mass" (M-111), in 0.1 kg
abbrev pub has_setting : ℕ → Bool
has_setting mass = within 951 10000 mass

-- "M-103's refusal 16 then begins above 1,000 kg"
unfoldable pub setting_answer : ℕ → Result Setting Refusal
setting_answer mass = cond (has_setting mass) (Ok (ruled (inertia_of mass))) (Err ReferenceMass)
