-- 001, paragraph 8, equations 8-2 to 8-15: what the fuel brings to fields 9 to 11 of the bag sheet, in 01's units. The density of the test fuel
-- (D of 8-14 and 8-15) is measured, and so stands open. 001 has no density of hydrocarbons without methane (02, M-108): 0 stands for it, which field 9 refuses.
use Rattle.std.specs.Prelude.{ℕ}
use Rattle.preset.specs.declared.Preset.{Preset}

-- What the equations have alike for both fuels. Densities: dCO 1.16 (8-4), dNO2 1.91 (8-6) and dCO2 1.83 (8-10) kg per cubic metre. Triple: CO and
-- HC in ppm over 10,000 beside CO2 in percent (8-12, 8-13), so that each weighs 1. Fuel: the factors 0.429 and 0.273 of CO and CO2 (8-14, 8-15).
abbrev pub preset_with : ℕ → ℕ → ℕ → ℕ → ℕ → Preset
preset_with hc d k factor density =
    record {
      density = record { hc = hc; co = 1160000; nox = 1910000; co2 = 1830000; nmhc = 0 };
      triple = record { d = d; wc = 10; wh = 10 };
      fuel = record { k = k; hc = factor; co = 429; co2 = 273; density = density };
    }

-- dHC 0.577 (8-2), 13.4 (8-12), 0.1155 and 0.866 (8-14)
abbrev pub petrol_of : ℕ → Preset
petrol_of density = preset_with 577000 134 1155 866 density

-- dHC 0.579 (8-2), 0.1160 and 0.862 (8-15). 8-13 has 13.28, which tenths cannot hold: 133 is the nearest, and not 001's figure.
abbrev pub diesel_of : ℕ → Preset
diesel_of density = preset_with 579000 133 1160 862 density
