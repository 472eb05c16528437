-- Refusals 13 and 14, over all parts each, the lowest number first, and then 19 (01, Refusal numbers; 02, M-108).
use Rattle.std.specs.Prelude.{Bool, List, [], ◌∷◌, ◌++◌, ℕ}
use Rattle.refusal.specs.Judging.{Judged, Check, judged_by}
use Rattle.refusal.specs.declared.Refusal.TheVariants.{Dilution, Humidity, Efficiencies}
use Rattle.bag.specs.declared.BagSheet.{BagSheet}
use Rattle.bag.specs.Sheet.{of_third}
use Rattle.cutter.specs.declared.Cutter.{Cutter}
use Rattle.cutter.specs.NonMethane.{cutter_good}
use Rattle.sides.specs.declared.TestSides.{TestSides}
use Rattle.part.specs.Part.{diluted, dry_enough}

-- 13: "G not below Q"
abbrev pub dilution : ℕ → Bool → Check
dilution part holds = record { holds = holds; refusal = Dilution part }

-- 14: "H above 30"
abbrev pub humidity : ℕ → Bool → Check
humidity part holds = record { holds = holds; refusal = Humidity part }

-- 19, "after 18", no place
abbrev pub efficiencies : Bool → Check
efficiencies holds = record { holds = holds; refusal = Efficiencies }

unfoldable pub late_checks : BagSheet → Cutter → TestSides → List Check
late_checks s c r =
    dilution 1 (diluted s.triple r.first.bag)
    ∷ dilution 2 (diluted s.triple r.second.bag)
    ∷ (of_third s.class (dilution 3 (diluted s.triple r.third.bag) ∷ [])
    ++ (humidity 1 (dry_enough s.first)
    ∷ humidity 2 (dry_enough s.second)
    ∷ (of_third s.class (humidity 3 (dry_enough s.third) ∷ [])
    ++ (efficiencies (cutter_good c) ∷ []))))

abbrev pub judge_late : BagSheet → Cutter → TestSides → Judged
judge_late s c r = judged_by (late_checks s c r)
