-- Readings before M-104: one whole number of units, "nearest, halves up" (01, Bag sheet and figures), which the stages took as both its ends.
use Rattle.std.specs.Prelude.{◌≡◌, false, cond, ℕ, eqb, ℤ, pos, ◌*ℤ◌, ◌≤ℤ◌, None, Ok, Option, Result}
use Rattle.std.specs.Int.Signed.{lt_z}
use Rattle.arith.specs.declared.Ends.{Ends}
use Rattle.arith.specs.Rounding.{div_down}
use Rattle.arith.specs.Stages.{exactly}
use Rattle.arith.specs.Fraction.{Fraction, decimal, ◌+ᶠ◌}
use Rattle.reading.specs.declared.Message.{Message}
use Rattle.sides.specs.declared.GasSides.{GasSides}
use Rattle.refusal.specs.declared.Gas.{Gas}
use Rattle.refusal.specs.declared.Gas.TheVariants.{HC, CO, NOx, CO2, NMHC}
use Rattle.refusal.specs.declared.Refusal.{Refusal}
use Rattle.sides.specs.declared.Sides.{Sides}
use Rattle.emission.specs.declared.TestResult.{TestResult}
use Rattle.sides.specs.declared.TestSides.{TestSides}
use Rattle.reading.specs.Units.{Exact, value, none, exact_units, up_to_limit}
use Rattle.bag.specs.Gas.{is_nmhc, message_at}
use Rattle.bag.specs.declared.Part.{Part}
use Rattle.bag.specs.declared.BagSheet.{BagSheet}
use Rattle.bag.specs.Sheet.{judge_sheet}
use Rattle.sides.specs.Gases.{nothing}
use Rattle.sides.specs.ReadIn.{read_gas, on_gas, worth_of, sides_from, on_part}
use Rattle.emission.specs.Test.{hand_up, on_read, read_answer}

-- the largest whole number at or below the fraction plus a half
abbrev pub nearest : Fraction → ℤ
nearest q = let more = q +ᶠ decimal (pos 1) 2 in div_down more.num more.den

abbrev pub rounded_before : Exact → Option Ends
rounded_before none = None
rounded_before (value q) = cond (lt_z q.num (pos 0)) None (up_to_limit (exactly (nearest q)))

unfoldable pub units_before : Message → Option Ends
units_before message = rounded_before (exact_units message)

-- ---- the whole test as it was: everything but the readings as it is
-- the cutter came later (02, M-108): its reading is read as it is now
abbrev pub worth_before : Gas → Message → Option Ends
worth_before gas message = cond (is_nmhc gas) (worth_of gas message) (units_before message)

abbrev pub gas_before : ℕ → Part → Gas → Result GasSides Refusal
gas_before part p gas = read_gas part gas (worth_before gas (message_at gas p.bag)) (worth_before gas (message_at gas p.air))

unfoldable pub part_before : ℕ → Part → Result Sides Refusal
part_before part p =
    on_gas (gas_before part p HC) λ hc.
    on_gas (gas_before part p CO) λ co.
    on_gas (gas_before part p NOx) λ nox.
    on_gas (gas_before part p CO2) λ co2.
    on_gas (gas_before part p NMHC) λ cutter.
    Ok (sides_from hc co nox co2 cutter)

unfoldable pub third_before : ℕ → Part → Result Sides Refusal
third_before class third = cond (eqb class 3) (part_before 3 third) (Ok (record { bag = nothing; air = nothing }))

unfoldable pub read_before : BagSheet → Result TestSides Refusal
read_before s =
    on_part (part_before 1 s.first) λ first.
    on_part (part_before 2 s.second) λ second.
    on_part (third_before s.class s.third) λ third.
    Ok (record { first = first; second = second; third = third })

unfoldable pub answer_before : BagSheet → Result TestResult Refusal
answer_before s = hand_up (judge_sheet s) (on_read (read_before s) (read_answer s))

-- ---- what ties the two
-- a message of a whole number of units
pub record WholeUnits (message : Message) : Type 0 where
  pub exact : Fraction
  pub is : exact_units message ≡ value exact
  pub units : ℤ
  pub whole : exact.num ≡ exact.den *ℤ units

-- every message of a part but the cutter's
pub record WholePart (p : Part) : Type 0 where
  pub bag : (gas : Gas) → is_nmhc gas ≡ false → WholeUnits (message_at gas p.bag)
  pub air : (gas : Gas) → is_nmhc gas ≡ false → WholeUnits (message_at gas p.air)

-- of each part of the class
pub record WholeTest (s : BagSheet) : Type 0 where
  pub first : WholePart s.first
  pub second : WholePart s.second
  pub third : s.class ≡ 3 → WholePart s.third

-- the second ends are the first or lie within them
pub record HoldsEnds (e f : Ends) : Type 0 where
  pub lower : e.lower ≤ℤ f.lower
  pub upper : f.upper ≤ℤ e.upper
