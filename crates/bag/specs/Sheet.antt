-- 01, Bag sheet and figures and Refusal numbers: the checks of refusals 10 and 11 in their order. Within 11 the test's fields come first, as
-- part 0. The third part is read for class 3 alone.
use Rattle.std.specs.Prelude.{Bool, ◌&&◌, cond, List, [], ◌∷◌, ◌++◌, ℕ, ◌*◌, leb, eqb}
use Rattle.refusal.specs.declared.Gas.{Gas}
use Rattle.refusal.specs.Judging.{Judged, Check, judged_by}
use Rattle.refusal.specs.declared.Refusal.TheVariants.{Parts, Value}
use Rattle.refusal.specs.Ranges.{within, withinℤ}
use Rattle.bag.specs.Gas.{among, along}
use Rattle.bag.specs.declared.Triple.{Triple}
use Rattle.bag.specs.declared.Fuel.{Fuel}
use Rattle.bag.specs.declared.Densities.{Densities}
use Rattle.bag.specs.declared.Limits.{Limits}
use Rattle.bag.specs.declared.Efficiencies.{Efficiencies}
use Rattle.bag.specs.declared.Part.{Part}
use Rattle.bag.specs.declared.BagSheet.{BagSheet}
use Rattle.bag.specs.Fields.{is_within, pump_range, revolutions_range, most_pumped, barometer_range, depression_range, coldest, hottest, humidity_range}
use Rattle.bag.specs.Fields.{saturation_range, distance_range, density_range, d_range, w_range, k_range, factor_range, fuel_density_range, most_limit, efficiency_range}

abbrev pub density_at : Gas → Densities → ℕ
density_at gas d = among gas d.hc d.co d.nox d.co2 d.nmhc

abbrev pub limit_at : Gas → Limits → ℕ
limit_at gas l = among gas l.hc l.co l.nox l.co2 l.nmhc

-- "class 1, parts 50 and 50 percent; class 2, 30 and 70; class 3, 25, 50 and 25"
abbrev pub parts_of : ℕ → ℕ
parts_of class = cond (eqb class 3) 3 2

-- 10: "class not 1 to 3, or wrong number of parts"
abbrev pub class_holds : ℕ → ℕ → Bool
class_holds class parts = within 1 3 class && eqb parts (parts_of class)

abbrev pub class_check : ℕ → ℕ → Check
class_check class parts = record { holds = class_holds class parts; refusal = Parts }

-- 11: any of a field's numbers is that field
abbrev pub value : ℕ → ℕ → Bool → Check
value part field holds = record { holds = holds; refusal = Value part field }

-- "10 to 12 per test"; "Efficiencies, 0 to 1,000 thousandths, are test field 13; its density and limit join fields 9 and 12" (02, M-108), present or not
abbrev pub limit_check : Limits → Gas → List Check
limit_check limits gas = value 0 12 (leb (limit_at gas limits) most_limit) ∷ []

abbrev pub efficiency_checks : Efficiencies → List Check
efficiency_checks e = value 0 13 (is_within efficiency_range e.methane) ∷ value 0 13 (is_within efficiency_range e.ethane) ∷ []

unfoldable pub test_checks : Triple → Fuel → Limits → Efficiencies → List Check
test_checks triple fuel limits efficiencies =
    value 0 10 (is_within d_range triple.d)
    ∷ value 0 10 (is_within w_range triple.wc)
    ∷ value 0 10 (is_within w_range triple.wh)
    ∷ value 0 11 (is_within k_range fuel.k)
    ∷ value 0 11 (is_within factor_range fuel.hc)
    ∷ value 0 11 (is_within factor_range fuel.co)
    ∷ value 0 11 (is_within factor_range fuel.co2)
    ∷ value 0 11 (is_within fuel_density_range fuel.density)
    ∷ (along (limit_check limits) ++ efficiency_checks efficiencies)

-- "with field 1 at most 10^9 ml", which is field 2
abbrev pub pumped : ℕ → ℕ → Bool
pumped pump revolutions = leb (pump * revolutions) most_pumped

-- "Fields 1 to 9 are per part"
abbrev pub density_check : ℕ → Densities → Gas → List Check
density_check part density gas = value part 9 (is_within density_range (density_at gas density)) ∷ []

unfoldable pub value_checks : ℕ → Part → List Check
value_checks part p =
    value part 1 (is_within pump_range p.pump)
    ∷ value part 2 (is_within revolutions_range p.revolutions)
    ∷ value part 2 (pumped p.pump p.revolutions)
    ∷ value part 3 (is_within barometer_range p.barometer)
    ∷ value part 4 (is_within depression_range p.depression)
    ∷ value part 5 (withinℤ coldest hottest p.temperature)
    ∷ value part 6 (is_within humidity_range p.humidity)
    ∷ value part 7 (is_within saturation_range p.saturation)
    ∷ value part 8 (is_within distance_range p.distance)
    ∷ along (density_check part p.density)

-- the checks of the third part, which class 3 alone has
abbrev pub of_third : ℕ → List Check → List Check
of_third class checks = cond (eqb class 3) checks []

-- 10 and 11
unfoldable pub sheet_checks : BagSheet → List Check
sheet_checks s =
    class_check s.class s.parts
    ∷ (test_checks s.triple s.fuel s.limits s.efficiencies
    ++ (value_checks 1 s.first
    ++ (value_checks 2 s.second
    ++ of_third s.class (value_checks 3 s.third))))

abbrev pub judge_sheet : BagSheet → Judged
judge_sheet s = judged_by (sheet_checks s)
