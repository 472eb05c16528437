-- What an accepted vehicle sheet tells of its numbers, which the shift speeds rest on. Assumes nothing.
use mathlib.Core.Path.{◌≡◌}
use mathlib.Core.Bool.{Bool, true, false}
use Prim.Native.Nat.{ℕ, ◌+◌, ◌-◌, ◌*◌, ◌<◌}
use lib.Dec.{leb}
use borrow.Author.Tests.{leb-true, ltb-true}
use Rattle.std.specs.Prelude.{Ok}
use Rattle.refusal.specs.declared.Refusal.TheVariants.{PowerToMass}
use Rattle.refusal.specs.Ranges.{within}
use Rattle.refusal.specs.Judging.{checked, judged_by, and_then}
use Rattle.refusal.proofs.Ranges.{both, range}
use Rattle.refusal.proofs.Judging.{checked-holds, judged-holds, then-holds, refused-not}
use Rattle.walk.proofs.Walk.{all-good}
use Rattle.vehicle.specs.declared.VehicleSheet.{VehicleSheet}
use Rattle.vehicle.specs.Sheet.{engine_checks, ndv_at, gear_good, judge_gears, rule_checks, mild, judge_vehicle, Ranged, Sound}

pub engine-ranged : (v : VehicleSheet) → judged_by (engine_checks v) ≡ Ok tt → Ranged v
engine-ranged v e =
    let h = judged-holds (engine_checks v) e in
    let i = both (within 300 3000 v.idle) (leb (v.idle + 500) v.rated) h.1.1.1.0 in
    record {
      power = range 1 3000 v.power h.0;
      mass = range 30 1000 v.mass h.1.0;
      rated = range 1000 20000 v.rated h.1.1.0;
      idle = range 300 3000 v.idle i.0;
      apart = leb-true (v.idle + 500) v.rated i.1;
      gears = range 3 8 v.gears h.1.1.1.1.0;
    }

pub accepted-sound : (v : VehicleSheet) → judge_vehicle v ≡ Ok tt → Sound v
unfolding judge_vehicle
accepted-sound v e =
    let last = checked (mild v) PowerToMass (Ok tt) in
    let ratios = judge_gears false v.ndv 0 v.gears in
    let falls = judge_gears true v.ndv 0 (v.gears - 1) in
    let set = judged_by (rule_checks v) in
    let engine = then-holds (judged_by (engine_checks v)) (and_then ratios (and_then set (and_then falls last))) e in
    let gears = then-holds ratios (and_then set (and_then falls last)) engine.1 in
    let rules = then-holds set (and_then falls last) gears.1 in
    let fall = then-holds falls last rules.1 in
    let good : (falling : Bool) (n : ℕ) → judge_gears falling v.ndv 0 n ≡ Ok tt → (i : ℕ) → i < n → gear_good falling v.ndv i ≡ true =
    λ falling. all-good (gear_good falling v.ndv) _ _ (Ok tt) (λ i. refused-not) in
    record {
      ranged = engine-ranged v engine.0;
      ndv = λ i l. range 1000 100000 (ndv_at v.ndv i) (good false v.gears gears.0 i l);
      rules = range 1 2 v.rules (judged-holds (rule_checks v) rules.0).0;
      fall = λ i l. ltb-true (ndv_at v.ndv (i + 1)) (ndv_at v.ndv i) (good true (v.gears - 1) fall.0 i l);
      mild = leb-true (19 * v.power) (150 * (v.mass + 75)) (checked-holds (mild v) PowerToMass (Ok tt) fall.1).0;
    }
