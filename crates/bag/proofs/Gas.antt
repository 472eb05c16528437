-- The law of every record of gases: what is made for each gas is each gas's. Assumes nothing.
use mathlib.Core.Path.{◌≡◌, refl}
use Rattle.refusal.specs.declared.Gas.{Gas}
use Rattle.refusal.specs.declared.Gas.TheVariants.{HC, CO, NOx, CO2, NMHC}
use Rattle.bag.specs.Gas.{among}

-- what holds of all gases, one by one, holds of each
pub by-gas : (P : Gas → Type 0) → P HC → P CO → P NOx → P CO2 → P NMHC → (gas : Gas) → P gas
by-gas P hc co nox co2 nmhc HC = hc
by-gas P hc co nox co2 nmhc CO = co
by-gas P hc co nox co2 nmhc NOx = nox
by-gas P hc co nox co2 nmhc CO2 = co2
by-gas P hc co nox co2 nmhc NMHC = nmhc

pub among-each : {A : Type 0} (gas : Gas) (f : Gas → A) → among gas (f HC) (f CO) (f NOx) (f CO2) (f NMHC) ≡ f gas
among-each gas f = by-gas (λ g. among g (f HC) (f CO) (f NOx) (f CO2) (f NMHC) ≡ f g) refl refl refl refl refl gas
