-- A vehicle sheet at the edges of its ranges, and engine speeds at the lowest, by the definitions themselves. Assumes nothing.
use mathlib.Core.Path.{◌≡◌, refl}
use mathlib.Core.Bool.{true, false}
use mathlib.Core.List.{List, [], ◌∷◌}
use Prim.Native.Nat.{ℕ}
use Rattle.std.specs.Prelude.{Ok, Err}
use Rattle.refusal.specs.Judging.{Judged}
use Rattle.refusal.specs.declared.Refusal.TheVariants.{Vehicle, Ratio, PowerToMass}
use Rattle.vehicle.specs.declared.VehicleSheet.{VehicleSheet}
use Rattle.vehicle.specs.Sheet.{judge_vehicle}
use Rattle.vehicle.specs.Engine.{engine_speed, lowest_engine_speed, below_lowest}

-- three gears: what stands behind them is not read
abbrev sheet : ℕ → ℕ → ℕ → ℕ → List ℕ → Judged
sheet power mass rated idle ndv = judge_vehicle (record { power = power; mass = mass; rated = rated; idle = idle; gears = 3; ndv = ndv; rules = 1 })

abbrev gears : List ℕ
gears = 100000 ∷ 1001 ∷ 1000 ∷ 0 ∷ 0 ∷ 0 ∷ 0 ∷ 0 ∷ []

-- 7: "19 P <= 150 (m + 75)": 150 and 15.0 kW at 115 kg, and a step more
power-to-mass : (sheet 1500 115 1000 300 gears ≡ Ok tt) × (sheet 1501 115 1000 300 gears ≡ Err PowerToMass)
unfolding judge_vehicle
power-to-mass = (refl, refl)

-- 5, place 4: "at most s - 500"
idle-below-rated : (sheet 1 30 1000 500 gears ≡ Ok tt) × (sheet 1 30 1000 501 gears ≡ Err (Vehicle 4))
unfolding judge_vehicle
idle-below-rated = (refl, refl)

-- 5, places 5 + gear; 6: "strictly falling"
gears-in-range : (sheet 1 30 1000 300 (100001 ∷ 1001 ∷ 1000 ∷ []) ≡ Err (Vehicle 6)) × (sheet 1 30 1000 300 (100000 ∷ 1001 ∷ 999 ∷ []) ≡ Err (Vehicle 8))
unfolding judge_vehicle
gears-in-range = (refl, refl)

gears-falling : (sheet 1 30 1000 300 (1001 ∷ 1001 ∷ 1000 ∷ []) ≡ Err (Ratio 2)) × (sheet 1 30 1000 300 (1002 ∷ 1001 ∷ 1001 ∷ []) ≡ Err (Ratio 3))
unfolding judge_vehicle
gears-falling = (refl, refl)

-- 5, place 14: "Refusals: 5 with place 14 for any other set"; before 6 and 7, and after 5 for a gear
abbrev by_set : ℕ → ℕ → List ℕ → Judged
by_set rules power ndv = judge_vehicle (record { power = power; mass = 115; rated = 1000; idle = 300; gears = 3; ndv = ndv; rules = rules })

rule-sets :
    (by_set 0 1500 gears ≡ Err (Vehicle 14))
    × (by_set 1 1500 gears ≡ Ok tt)
    × (by_set 2 1500 gears ≡ Ok tt)
    × (by_set 3 1500 gears ≡ Err (Vehicle 14))
unfolding judge_vehicle
rule-sets = (refl, refl, refl, refl)

rule-set-in-order :
    (by_set 3 1501 (1001 ∷ 1001 ∷ 1000 ∷ []) ≡ Err (Vehicle 14))
    × (by_set 2 1501 (1001 ∷ 1001 ∷ 1000 ∷ []) ≡ Err (Ratio 2))
    × (by_set 3 1500 (1002 ∷ 1001 ∷ 999 ∷ []) ≡ Err (Vehicle 8))
unfolding judge_vehicle
rule-set-in-order = (refl, refl, refl)

-- Annex 13's machine (table A13-1)
abbrev pub annex : VehicleSheet
annex =
    record {
      power = 720;
      mass = 199;
      rated = 11800;
      idle = 1150;
      gears = 6;
      ndv = 13366 ∷ 9491 ∷ 7616 ∷ 6569 ∷ 5885 ∷ 5404 ∷ 0 ∷ 0 ∷ [];
      rules = 1;
    }

-- table A13-3, "2 to cl": 1,470 per minute, which is 1,469.5, and from 15.5 km/h on second gear has it
lowest : (lowest_engine_speed annex ≡ 1469500) × (engine_speed annex 2 155 ≡ 1471105) × (below_lowest annex 2 154 ≡ true) × (below_lowest annex 2 155 ≡ false)
unfolding below_lowest
lowest = (refl, refl, refl, refl)

-- a machine whose n + 0.03 (s - n) is 1,120 per minute, with 80.00 per km/h in second gear: 14.0 km/h is exactly that, and not below
abbrev pub round : VehicleSheet
round = record { power = 300; mass = 200; rated = 5000; idle = 1000; gears = 3; ndv = 12000 ∷ 8000 ∷ 6000 ∷ []; rules = 1 }

at-equality : (below_lowest round 2 139 ≡ true) × (below_lowest round 2 140 ≡ false)
unfolding below_lowest
at-equality = (refl, refl)

-- neutral, and what is no gear
no-gear : (below_lowest round 0 2000 ≡ true) × (below_lowest round 9 2000 ≡ true)
unfolding below_lowest
no-gear = (refl, refl)
