-- The gear by the sheet's rule set, by cases: under set 2 a cruise or deceleration second below the downshift 2 to 1 is in gear 1, and every other second has
-- the gear of set 1. Assumes nothing.
use mathlib.Core.Path.{◌≡◌, refl}
use mathlib.Core.Bool.{Bool, true, false, cond, ◌&&◌}
use Prim.Native.Nat.{ℕ}
use lib.Dec.{eqb}
use Rattle.vehicle.specs.declared.VehicleSheet.{VehicleSheet}
use Rattle.vehicle.specs.Engine.{below_lowest}
use Rattle.shift.specs.declared.Shift.{Shift}
use Rattle.shift.specs.Speeds.{shift_of, by_set1, below_second, by_set2, goes_first, own_gear, Own}

-- a gear 1 that is as close as the gear it stands for
abbrev pub first : Own → Own
first own = record { gear = 1; close = own.close }

module _ (s : Shift) (speed : ℕ) where
  pub by-sets : (accelerates : Bool) → own_gear s accelerates speed ≡ cond (goes_first s accelerates speed) (first (by_set1 s accelerates speed)) (by_set1 s accelerates speed)
  unfolding own_gear by_set2
  by-sets true = go (eqb s.rules 2)
    where
      go : (set2 : Bool) → cond set2 (by_set1 s true speed) (by_set1 s true speed) ≡ cond ((set2 && false) && below_second s speed) (first (by_set1 s true speed)) (by_set1 s true speed)
      go true = refl
      go false = refl
  by-sets false = go (eqb s.rules 2) (below_second s speed)
    where
      own : Own
      own = by_set1 s false speed

      go : (set2 below : Bool) → cond set2 (record { gear = cond below 1 own.gear; close = own.close }) own ≡ cond ((set2 && true) && below) (first own) own
      go true true = refl
      go true false = refl
      go false true = refl
      go false false = refl

-- a sheet that names set 1 has its gears
pub stays : (s : Shift) → s.rules ≡ 1 → (accelerates : Bool) (speed : ℕ) → own_gear s accelerates speed ≡ by_set1 s accelerates speed
unfolding own_gear
stays s e accelerates speed = rw e

-- the speed is below the downshift 2 to 1 exactly where the engine is below the lowest engine speed in gear 2
pub second-lowest : (v : VehicleSheet) (speed : ℕ) → below_second (shift_of v) speed ≡ below_lowest v 2 speed
unfolding below_second shift_of below_lowest
second-lowest v speed = refl
