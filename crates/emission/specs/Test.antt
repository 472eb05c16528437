-- The whole test (01, Bag sheet and figures): the parts, the weighted result, the fuel and the verdicts, past what is read and judged (sides, late).
use Rattle.std.specs.Prelude.{Bool, cond, ℕ, eqb, pos, None, Option, Some, Ok, Err, Result}
use Rattle.arith.specs.declared.Ends.{Ends}
use Rattle.arith.specs.Stages.{exactly}
use Rattle.refusal.specs.declared.Gas.{Gas}
use Rattle.refusal.specs.declared.Gas.TheVariants.{HC, CO, NOx, CO2, NMHC}
use Rattle.refusal.specs.Judging.{Judged}
use Rattle.refusal.specs.declared.Refusal.{Refusal}
use Rattle.bag.specs.Gas.{is_nmhc, among}
use Rattle.bag.specs.declared.BagSheet.{BagSheet}
use Rattle.bag.specs.declared.Fuel.{Fuel}
use Rattle.bag.specs.declared.Limits.{Limits}
use Rattle.bag.specs.Sheet.{limit_at, judge_sheet}
use Rattle.weigh.specs.declared.Verdict.{Verdict}
use Rattle.weigh.specs.declared.Weights.{Weights}
use Rattle.weigh.specs.Test.{weights_of, weighted_of, fuel_of, verdict_of}
use Rattle.cutter.specs.declared.Cutter.{Cutter}
use Rattle.cutter.specs.NonMethane.{cutter_of}
use Rattle.sides.specs.declared.Gases.{Gases}
use Rattle.sides.specs.declared.Sides.{Sides}
use Rattle.sides.specs.declared.TestSides.{TestSides}
use Rattle.sides.specs.Gases.{ends_at, each, nothing}
use Rattle.sides.specs.ReadIn.{read_in}
use Rattle.part.specs.declared.PartResult.{PartResult}
use Rattle.part.specs.Part.{part_of}
use Rattle.late.specs.Late.{judge_late}
use Rattle.emission.specs.declared.Parts.{Parts}
use Rattle.emission.specs.declared.Verdicts.{Verdicts}
use Rattle.emission.specs.declared.TestResult.{TestResult}

-- ---- the parts. A third part that the class does not have is nothing
abbrev pub no_part : PartResult
no_part = record { volume = exactly (pos 0); mass = nothing; rate = nothing }

unfoldable pub third_part : BagSheet → Cutter → Sides → PartResult
third_part s c sides = cond (eqb s.class 3) (part_of s.triple c s.third sides) no_part

unfoldable pub parts_in : BagSheet → Cutter → TestSides → Parts
parts_in s c r =
    record {
      first = part_of s.triple c s.first r.first;
      second = part_of s.triple c s.second r.second;
      third = third_part s c r.third;
    }

-- ---- the result
-- "Weighted", each gas at the class's weights
unfoldable pub weighted_gases : Weights → Gases → Gases → Gases → Gases
weighted_gases w first second third = each (λ gas. weighted_of w (ends_at gas first) (ends_at gas second) (ends_at gas third))

-- "Verdict per gas"
abbrev pub verdict_at : Gas → Verdicts → Option Verdict
verdict_at gas v = among gas v.hc v.co v.nox v.co2 v.nmhc

unfoldable pub each_verdict : (Gas → Option Verdict) → Verdicts
each_verdict f = record { hc = f HC; co = f CO; nox = f NOx; co2 = f CO2; nmhc = f NMHC }

-- 02, M-108: "leaves the fifth absent for the whole test, with no verdict"
unfoldable pub nmhc_verdict : Bool → Ends → ℕ → Option Verdict
nmhc_verdict has_nmhc rate limit = cond has_nmhc (Some (verdict_of rate limit)) None

unfoldable pub verdicts_of : Bool → Gases → Limits → Verdicts
verdicts_of has_nmhc weighted limits =
    each_verdict (λ gas. cond (is_nmhc gas) (nmhc_verdict has_nmhc weighted.nmhc limits.nmhc) (Some (verdict_of (ends_at gas weighted) (limit_at gas limits))))

-- "Fuel .. from the weighted ends"
abbrev pub fuel_in : Fuel → Gases → Ends
fuel_in f weighted = fuel_of f.k f.hc f.co f.co2 f.density weighted.hc weighted.co weighted.co2

abbrev pub weighted_in : BagSheet → Parts → Gases
weighted_in s parts = weighted_gases (weights_of s.class) parts.first.rate parts.second.rate parts.third.rate

unfoldable pub result_of : BagSheet → Bool → Parts → TestResult
result_of s has_nmhc parts =
    record {
      has_nmhc = has_nmhc;
      parts = parts;
      weighted = weighted_in s parts;
      verdicts = verdicts_of has_nmhc (weighted_in s parts) s.limits;
      fuel = fuel_in s.fuel (weighted_in s parts);
    }

-- ---- the answer: "a full answer or .. one numbered refusal with its place"
abbrev pub hand_up : Judged → Result TestResult Refusal → Result TestResult Refusal
hand_up (Ok _) next = next
hand_up (Err refusal) next = Err refusal

abbrev pub on_read : Result TestSides Refusal → (TestSides → Result TestResult Refusal) → Result TestResult Refusal
on_read (Ok readings) next = next readings
on_read (Err refusal) next = Err refusal

-- past refusal 12
unfoldable pub read_answer : BagSheet → TestSides → Result TestResult Refusal
read_answer s r = let c = cutter_of s in hand_up (judge_late s c r) (Ok (result_of s c.fitted (parts_in s c r)))

unfoldable pub test_answer : BagSheet → Result TestResult Refusal
test_answer s = hand_up (judge_sheet s) (on_read (read_in s) (read_answer s))
