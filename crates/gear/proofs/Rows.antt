-- The row depends on the gears outside stops alone, so the gears that were put into a list give the row of the sheet. Assumes nothing.
use mathlib.Core.Path.{◌≡◌, refl, ap}
use mathlib.Core.Bool.{Bool, true, false, cond}
use mathlib.Core.List.{List}
use Prim.Native.Nat.{ℕ, ◌-◌, ◌≤◌, ◌<◌}
use lib.ListN.{length, get_or}
use Rattle.walk.proofs.Pairs.{pairs-both}
use Rattle.walk.proofs.Stores.{put-at}
use Rattle.house.specs.House.{flags_at, stop}
use Rattle.vehicle.specs.declared.VehicleSheet.{VehicleSheet}
use Rattle.shift.specs.Speeds.{shift_of}
use Rattle.phase.specs.Phase.{stop_end, stop_gear, first_gear, first_row}
use Rattle.own.specs.Own.{put_own}
use Rattle.gear.specs.Sheet.{finished, row_from, own_of, row_of}

module _ (f g : ℕ → ℕ) (trace : List ℕ) (n : ℕ) (same : (k : ℕ) → k < n → stop (flags_at trace k) ≡ false → f k ≡ g k) where
  -- gears that are the same outside stops give one row, before corrections
  pub first-same : first_row f trace n ≡ first_row g trace n
  unfolding first_row first_gear
  first-same = pairs-both _ _ (λ k. 0) (λ k. 0) n (λ k l. at k (stop (flags_at trace k)) (same k l)) (λ k l. refl)
    where
      at : (k : ℕ) (stops : Bool) → (stops ≡ false → f k ≡ g k)
          → cond stops (stop_gear (stop_end trace n k - k)) (f k) ≡ cond stops (stop_gear (stop_end trace n k - k)) (g k)
      at k true e = refl
      at k false e = e refl

  -- and finished
  pub row_same : (v : VehicleSheet) → row_from v f trace n ≡ row_from v g trace n
  row_same v = ap (λ (row : List ℕ). finished v trace row n) first-same

pub row-of-own : (v : VehicleSheet) (trace own : List ℕ) (n : ℕ) → n ≤ length own
    → row_from v (λ k. get_or (put_own (shift_of v) trace own n) k 0) trace n ≡ row_of v trace n
unfolding row_of
row-of-own v trace own n room = row_same _ (own_of v trace) trace n (λ k l outside. put-at (own_of v trace) own n k l room) v
