-- The clutch of a row, second by second: it is set once, behind the gear, and the gears stay, whatever the rule. Assumes nothing.
use mathlib.Core.Path.{◌≡◌, refl, sym, ap, ◌∙◌}
use mathlib.Core.Bool.{Bool, true, false, cond, ◌||◌}
use mathlib.Core.List.{List}
use Prim.Native.Nat.{ℕ, ◌+◌, ◌*◌, ◌≤◌, ◌<◌}
use native.Mathlib.Omega.{arith}
use lib.Dec.{ltb}
use lib.ListN.{length}
use Rattle.walk.proofs.Stores.{Storing, stores-length, not-stored, stored}
use Rattle.house.specs.House.{stop}
use Rattle.vehicle.specs.declared.VehicleSheet.{VehicleSheet}
use Rattle.vehicle.specs.Engine.{below_lowest}
use Rattle.row.specs.Row.{gear_at, clutch_at}
use Rattle.clutch.specs.Clutch.{clutch_of, clutch_step, with_clutch}

module _ (rule : ℕ → ℕ → ℕ) where
  abbrev clutching : Storing (List ℕ)
  clutching = record {
    bytes = λ row. row;
    step = clutch_step rule;
    place = λ k. 2 * k + 1;
    new = λ row k. rule k (gear_at row k);
    stores = λ row k. refl;
    apart = λ j k e. omega arith;
  }

  module _ (row : List ℕ) where
    pub clutch-length : (n : ℕ) → length (with_clutch rule row n) ≡ length row
    unfolding with_clutch
    clutch-length n = stores-length clutching row n

    -- no rule of the clutch changes a gear
    pub clutch-gear : (n k : ℕ) → gear_at (with_clutch rule row n) k ≡ gear_at row k
    unfolding with_clutch
    clutch-gear n k = not-stored clutching (2 * k) (λ j (e : 2 * k ≡ 2 * j + 1). omega arith) row n

    -- a second's clutch is the rule's for the gear that the row has there
    pub clutch-at : (n k : ℕ) → k < n → 2 * n ≤ length row → clutch_at (with_clutch rule row n) k ≡ rule k (gear_at (with_clutch rule row n) k)
    unfolding with_clutch
    clutch-at n k l room = stored clutching row n k l (omega arith) ∙ ap (rule k) (clutch-gear k k ∙ sym (clutch-gear n k))

-- in or out
pub clutch-of-most : (v : VehicleSheet) (flags speed gear : ℕ) → clutch_of v flags speed gear ≤ 1
unfolding clutch_of
clutch-of-most v flags speed gear = go (stop flags || ltb speed 100 || below_lowest v gear speed)
  where
    go : (b : Bool) → cond b 1 0 ≤ 1
    go true = omega arith
    go false = omega arith
