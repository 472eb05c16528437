-- 01, Shift speeds, and 02, M-101: the vehicle sheet, and refusals 5, 6 and 7. Gears count from 0 here, and from 1 where a refusal names one.
use Rattle.std.specs.Prelude.{Bool, true, false, ◌&&◌, List, [], ◌∷◌, ◌≡◌, ℕ, ◌+◌, ◌-◌, ◌*◌, ◌≤◌, ◌<◌, get_or, leb, ltb, Ok, Err}
use Rattle.refusal.specs.declared.Refusal.{Refusal}
use Rattle.refusal.specs.declared.Refusal.TheVariants.{Vehicle, Ratio, PowerToMass}
use Rattle.refusal.specs.Judging.{Judged, checked, Check, judged_by, and_then}
use Rattle.refusal.specs.Ranges.{within}
use Rattle.walk.specs.Walk.{scan}
use Rattle.vehicle.specs.declared.VehicleSheet.{VehicleSheet}

abbrev pub field : ℕ → Bool → Check
field k holds = record { holds = holds; refusal = Vehicle k }

-- 5, places 1 to 5: "rated power P in 0.1 kW (1 to 3,000), kerb mass m in kg (30 to 1,000), rated speed s (1,000 to 20,000 per minute), idle n (300 to
-- 3,000, at most s - 500), gears ng (3 to 8)"
abbrev pub engine_checks : VehicleSheet → List Check
engine_checks v =
    field 1 (within 1 3000 v.power)
    ∷ field 2 (within 30 1000 v.mass)
    ∷ field 3 (within 1000 20000 v.rated)
    ∷ field 4 (within 300 3000 v.idle && leb (v.idle + 500) v.rated)
    ∷ field 5 (within 3 8 v.gears)
    ∷ []

-- "ndv of each gear in 0.01 per minute per km/h"
abbrev pub ndv_at : List ℕ → ℕ → ℕ
ndv_at ndv i = get_or ndv i 0

-- 5, places 5 + gear: "1,000 to 100,000"; 6: "strictly falling", of a gear and the next
abbrev pub gear_good : Bool → List ℕ → ℕ → Bool
gear_good false ndv i = within 1000 100000 (ndv_at ndv i)
gear_good true ndv i = ltb (ndv_at ndv (i + 1)) (ndv_at ndv i)

abbrev pub gear_refusal : Bool → ℕ → Refusal
gear_refusal false i = Vehicle (i + 6)
gear_refusal true i = Ratio (i + 2)

-- the first of n gears that is wrong, from gear i on
abbrev pub judge_gears : Bool → List ℕ → ℕ → ℕ → Judged
judge_gears falling ndv = scan (gear_good falling ndv) (λ i. Err (gear_refusal falling i)) (λ i. Ok tt)

-- 5, place 14 (02, M-101): the rule set, "1 or 2"
abbrev pub rule_checks : VehicleSheet → List Check
rule_checks v = field 14 (within 1 2 v.rules) ∷ []

-- 7: "Condition: 19 P <= 150 (m + 75)"
abbrev pub mild : VehicleSheet → Bool
mild v = leb (19 * v.power) (150 * (v.mass + 75))

-- 5, 6, 7, the lowest number first
unfoldable pub judge_vehicle : VehicleSheet → Judged
judge_vehicle v =
    and_then (judged_by (engine_checks v))
    (and_then (judge_gears false v.ndv 0 v.gears)
    (and_then (judged_by (rule_checks v))
    (and_then (judge_gears true v.ndv 0 (v.gears - 1))
    (checked (mild v) PowerToMass (Ok tt)))))

-- the n gears are there, and where each is held against the next, those too
pub record Reach (falling : Bool) (n : ℕ) : Type 0 where
  pub here : n ≤ 8
  pub next : falling ≡ true → n ≤ 7

-- what an accepted sheet tells of its numbers
pub record Ranged (v : VehicleSheet) : Type 0 where
  pub power : (1 ≤ v.power) × (v.power ≤ 3000)
  pub mass : (30 ≤ v.mass) × (v.mass ≤ 1000)
  pub rated : (1000 ≤ v.rated) × (v.rated ≤ 20000)
  pub idle : (300 ≤ v.idle) × (v.idle ≤ 3000)
  pub apart : v.idle + 500 ≤ v.rated
  pub gears : (3 ≤ v.gears) × (v.gears ≤ 8)

pub record Sound (v : VehicleSheet) : Type 0 where
  pub ranged : Ranged v
  pub ndv : (i : ℕ) → i < v.gears → (1000 ≤ ndv_at v.ndv i) × (ndv_at v.ndv i ≤ 100000)
  pub rules : (1 ≤ v.rules) × (v.rules ≤ 2)
  pub fall : (i : ℕ) → i < v.gears - 1 → ndv_at v.ndv (i + 1) < ndv_at v.ndv i
  pub mild : 19 * v.power ≤ 150 * (v.mass + 75)
