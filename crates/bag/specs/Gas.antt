-- The gases of a test, and which of their values is a gas's: so that what holds of each is said once. A record of gases stands further up, with its
-- own `..At`, and where it is made for every gas, its own `each`; the law of every such pair is `among-each` of proofs/.
use Rattle.std.specs.Prelude.{Bool, true, false, List, ◌++◌}
use Rattle.refusal.specs.declared.Gas.{Gas}
use Rattle.refusal.specs.declared.Gas.TheVariants.{HC, CO, NOx, CO2, NMHC}
use Rattle.reading.specs.declared.Message.{Message}
use Rattle.reading.specs.declared.Bag.{Bag}

-- the gases that some rules name apart from the others
abbrev pub is_nox : Gas → Bool
is_nox HC = false
is_nox CO = false
is_nox NOx = true
is_nox CO2 = false
is_nox NMHC = false

abbrev pub is_nmhc : Gas → Bool
is_nmhc HC = false
is_nmhc CO = false
is_nmhc NOx = false
is_nmhc CO2 = false
is_nmhc NMHC = true

-- the value of a gas, among one for each, of any kind
abbrev pub among : {A : Type 0} → Gas → A → A → A → A → A → A
among HC hc co nox co2 nmhc = hc
among CO hc co nox co2 nmhc = co
among NOx hc co nox co2 nmhc = nox
among CO2 hc co nox co2 nmhc = co2
among NMHC hc co nox co2 nmhc = nmhc

-- a list for each gas, in their order
abbrev pub along : {A : Type 0} → (Gas → List A) → List A
along f = f HC ++ (f CO ++ (f NOx ++ (f CO2 ++ f NMHC)))

-- the fifth gas has no reading of its own: with HC's, the one behind the cutter gives it
abbrev pub message_at : Gas → Bag → Message
message_at gas b = among gas b.hc b.co b.nox b.co2 b.cutter
