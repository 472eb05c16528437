-- What crosses the boundary, number by number, as include/ylhovesko.h tells a bench: kinds of a message, gases, sides, verdicts, the four numbers of an outcome, the chosen one
-- of a pair; and 001's figures of the fuels (paragraph 8), as decimals beside the sheet's whole numbers.
use Rattle.std.specs.Prelude.{true, false, List, [], ◌∷◌, ℕ, ◌*◌, None, Some, Ok, Err}
use Rattle.std.specs.Float.Ieee.{of_bits}
use Rattle.std.specs.Float.{binary32}
use Rattle.refusal.specs.declared.Gas.TheVariants.{HC, CO, NOx, CO2, NMHC}
use Rattle.refusal.specs.declared.Side.TheVariants.{Bag, Air}
use Rattle.refusal.specs.Table.{gas_number, side_number}
use Rattle.refusal.specs.declared.Refusal.TheVariants.{Header, Second, Vehicle, Ratio, Value, Reading, Humidity, ReferenceMass, RotatingOrSpeed, LotSize, Efficiencies, LotRecord}
use Rattle.reading.specs.declared.Message.TheVariants.{Ppm, Percent, OverRange, NotFitted}
use Rattle.weigh.specs.declared.Verdict.TheVariants.{Pass, Fail, Undecided}
use Rattle.preset.specs.Preset.{petrol_of, diesel_of}
use Rattle.outcome.specs.Outcome.{outcome_of, chosen_of}
use Rattle.record.specs.Record.{verdict_number, flag_of}
use Rattle.crossing.specs.Sheet.{message_of}
use Rattle.claims.specs.Figures.{Figure, ◌gives◌}
use Rattle.claims.specs.Table.{outcome}

-- 1.0 as an analyser sends it
abbrev one : ℕ
one = 1065353216

-- n of a sheet's parts of a unit, `whole` of them to one, beside the decimal that 001 prints, digits / places: equal by their cross products
abbrev prints : ℕ → ℕ → ℕ → ℕ → Figure
prints n whole digits places = (n * places) gives (digits * whole)

abbrev pub crossing : List Figure
crossing =
    (message_of (record { kind = 0; bits = one }) gives Ppm (of_bits binary32 one))
    ∷ (message_of (record { kind = 1; bits = one }) gives Percent (of_bits binary32 one))
    ∷ (message_of (record { kind = 2; bits = one }) gives OverRange)
    ∷ (message_of (record { kind = 3; bits = one }) gives NotFitted)
    ∷ (message_of (record { kind = 4; bits = one }) gives OverRange)
    ∷ (gas_number HC gives 1)
    ∷ (gas_number CO gives 2)
    ∷ (gas_number NOx gives 3)
    ∷ (gas_number CO2 gives 4)
    ∷ (gas_number NMHC gives 5)
    ∷ (side_number Bag gives 1)
    ∷ (side_number Air gives 2)
    ∷ (verdict_number (Some Pass) gives 1)
    ∷ (verdict_number (Some Fail) gives 2)
    ∷ (verdict_number (Some Undecided) gives 3)
    ∷ (verdict_number None gives 0)
    ∷ (flag_of false gives 0)
    ∷ (flag_of true gives 1)
    ∷ (outcome_of (Ok tt) gives outcome 0 0 0 0)
    ∷ (outcome_of (Err Header) gives outcome 1 0 0 0)
    ∷ (outcome_of (Err (Second 7)) gives outcome 4 7 0 0)
    ∷ (outcome_of (Err (Vehicle 6)) gives outcome 5 6 0 0)
    ∷ (outcome_of (Err (Ratio 2)) gives outcome 6 2 0 0)
    ∷ (outcome_of (Err (Value 3 9)) gives outcome 11 3 9 0)
    ∷ (outcome_of (Err (Reading 2 3 1)) gives outcome 12 2 3 1)
    ∷ (outcome_of (Err (Humidity 2)) gives outcome 14 2 0 0)
    ∷ (outcome_of (Err ReferenceMass) gives outcome 16 0 0 0)
    ∷ (outcome_of (Err RotatingOrSpeed) gives outcome 17 0 0 0)
    ∷ (outcome_of (Err LotSize) gives outcome 18 0 0 0)
    ∷ (outcome_of (Err Efficiencies) gives outcome 19 0 0 0)
    ∷ (outcome_of (Err (LotRecord 0)) gives outcome 21 0 0 0)
    ∷ (outcome_of (Err (LotRecord 255)) gives outcome 21 255 0 0)
    ∷ (chosen_of (Ok tt) false gives 1)
    ∷ (chosen_of (Ok tt) true gives 2)
    ∷ (chosen_of (Err Header) true gives 0)
    ∷ []

-- 001, paragraph 8: densities in kg per cubic metre (8-2, 8-4, 8-6, 8-10), the triple (8-12, 8-13), k and the factors of HC, CO and CO2 (8-14, 8-15). D of
-- diesel is 13.28 there, and 13.3 in tenths (docs/DECISIONS.md, Presets). It has no density of the fifth gas
abbrev pub fuels : List Figure
fuels =
    (prints (petrol_of 750).density.hc 1000000 577 1000)
    ∷ (prints (petrol_of 750).density.co 1000000 116 100)
    ∷ (prints (petrol_of 750).density.nox 1000000 191 100)
    ∷ (prints (petrol_of 750).density.co2 1000000 183 100)
    ∷ ((petrol_of 750).density.nmhc gives 0)
    ∷ (prints (petrol_of 750).triple.d 10 134 10)
    ∷ (prints (petrol_of 750).triple.wc 10 1 1)
    ∷ (prints (petrol_of 750).triple.wh 10 1 1)
    ∷ (prints (petrol_of 750).fuel.k 10000 1155 10000)
    ∷ (prints (petrol_of 750).fuel.hc 1000 866 1000)
    ∷ (prints (petrol_of 750).fuel.co 1000 429 1000)
    ∷ (prints (petrol_of 750).fuel.co2 1000 273 1000)
    ∷ ((petrol_of 750).fuel.density gives 750)
    ∷ (prints (diesel_of 840).density.hc 1000000 579 1000)
    ∷ (prints (diesel_of 840).density.co 1000000 116 100)
    ∷ (prints (diesel_of 840).density.nox 1000000 191 100)
    ∷ (prints (diesel_of 840).density.co2 1000000 183 100)
    ∷ ((diesel_of 840).density.nmhc gives 0)
    ∷ (prints (diesel_of 840).triple.d 10 133 10)
    ∷ (prints (diesel_of 840).fuel.k 10000 1160 10000)
    ∷ (prints (diesel_of 840).fuel.hc 1000 862 1000)
    ∷ (prints (diesel_of 840).fuel.co 1000 429 1000)
    ∷ (prints (diesel_of 840).fuel.co2 1000 273 1000)
    ∷ ((diesel_of 840).fuel.density gives 840)
    ∷ []
