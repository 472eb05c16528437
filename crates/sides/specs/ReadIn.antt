-- Refusal 12 and the readings together: each message is converted once, in the table's order ("gases go HC, CO, NOx, CO2, bag before air"; then the
-- reading behind the cutter, 02, M-108). The first that is unusable is the refusal, and then there are no ends.
use Rattle.std.specs.Prelude.{Bool, true, false, cond, List, [], ◌∷◌, ◌++◌, ℕ, eqb, Err, None, Ok, Option, Result, Some}
use Rattle.refusal.specs.declared.Gas.{Gas}
use Rattle.refusal.specs.declared.Gas.TheVariants.{HC, CO, NOx, CO2, NMHC}
use Rattle.refusal.specs.declared.Side.{Side}
use Rattle.refusal.specs.declared.Side.TheVariants.{Bag, Air}
use Rattle.refusal.specs.declared.Refusal.{Refusal}
use Rattle.refusal.specs.declared.Refusal.TheVariants.{Reading}
use Rattle.refusal.specs.Table.{gas_number, side_number}
use Rattle.refusal.specs.Judging.{Judged, Check}
use Rattle.arith.specs.declared.Ends.{Ends}
use Rattle.reading.specs.declared.Message.{Message}
use Rattle.reading.specs.Units.{units_of, cutter_units}
use Rattle.bag.specs.Gas.{is_nmhc, among, along, message_at}
use Rattle.bag.specs.declared.BagSheet.{BagSheet}
use Rattle.bag.specs.declared.Part.{Part}
use Rattle.bag.specs.Sheet.{of_third}
use Rattle.sides.specs.declared.GasSides.{GasSides}
use Rattle.sides.specs.declared.Sides.{Sides}
use Rattle.sides.specs.declared.TestSides.{TestSides}
use Rattle.sides.specs.Gases.{each, nothing}

-- a gas of a part, from what its two messages are worth: "bag before air"
unfoldable pub read_gas : ℕ → Gas → Option Ends → Option Ends → Result GasSides Refusal
read_gas part gas None air = Err (Reading part (gas_number gas) (side_number Bag))
read_gas part gas (Some in_bag) None = Err (Reading part (gas_number gas) (side_number Air))
read_gas part gas (Some in_bag) (Some in_air) = Ok (record { bag = in_bag; air = in_air })

-- what follows a gas that was read
abbrev pub on_gas : Result GasSides Refusal → (GasSides → Result Sides Refusal) → Result Sides Refusal
on_gas (Ok both) next = next both
on_gas (Err refusal) next = Err refusal

-- the reading behind the cutter may be missing, and no other
abbrev pub worth_of : Gas → Message → Option Ends
worth_of gas message = cond (is_nmhc gas) (cutter_units message) (units_of message)

abbrev pub gas_of : ℕ → Part → Gas → Result GasSides Refusal
gas_of part p gas = read_gas part gas (worth_of gas (message_at gas p.bag)) (worth_of gas (message_at gas p.air))

unfoldable pub sides_from : GasSides → GasSides → GasSides → GasSides → GasSides → Sides
sides_from hc co nox co2 cutter =
    record { bag = each (λ gas. (among gas hc co nox co2 cutter).bag); air = each (λ gas. (among gas hc co nox co2 cutter).air) }

unfoldable pub read_part : ℕ → Part → Result Sides Refusal
read_part part p =
    on_gas (gas_of part p HC) λ hc.
    on_gas (gas_of part p CO) λ co.
    on_gas (gas_of part p NOx) λ nox.
    on_gas (gas_of part p CO2) λ co2.
    on_gas (gas_of part p NMHC) λ cutter.
    Ok (sides_from hc co nox co2 cutter)

-- as a judgement
abbrev pub judged_part : Result Sides Refusal → Judged
judged_part (Ok sides) = Ok tt
judged_part (Err refusal) = Err refusal

-- ---- as the table has it: one check for each message
abbrev pub is_usable : Option Ends → Bool
is_usable (Some ends) = true
is_usable None = false

-- 12: "reading unusable"
abbrev pub reading_check : ℕ → Gas → Side → Message → Check
reading_check part gas side message = record { holds = is_usable (worth_of gas message); refusal = Reading part (gas_number gas) (side_number side) }

abbrev pub gas_checks : ℕ → Part → Gas → List Check
gas_checks part p gas = reading_check part gas Bag (message_at gas p.bag) ∷ reading_check part gas Air (message_at gas p.air) ∷ []

unfoldable pub reading_checks : ℕ → Part → List Check
reading_checks part p = along (gas_checks part p)

-- ---- the whole test
-- class 3 alone has a third part: of another it is not read
unfoldable pub read_third : ℕ → Part → Result Sides Refusal
read_third class third = cond (eqb class 3) (read_part 3 third) (Ok (record { bag = nothing; air = nothing }))

-- what follows a part that was read
abbrev pub on_part : Result Sides Refusal → (Sides → Result TestSides Refusal) → Result TestSides Refusal
on_part (Ok sides) next = next sides
on_part (Err refusal) next = Err refusal

unfoldable pub read_in : BagSheet → Result TestSides Refusal
read_in s =
    on_part (read_part 1 s.first) λ first.
    on_part (read_part 2 s.second) λ second.
    on_part (read_third s.class s.third) λ third.
    Ok (record { first = first; second = second; third = third })

-- 12 as the table has it
unfoldable pub message_checks : BagSheet → List Check
message_checks s = reading_checks 1 s.first ++ (reading_checks 2 s.second ++ of_third s.class (reading_checks 3 s.third))
