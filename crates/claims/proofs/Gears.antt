-- What holds of the gears of every finished row, for every trace and vehicle: they go up to the vehicle's highest, 0 stands in stops alone, a stop ends in
-- gear 1, a "no 1. gear" second outside stops has no 1, and outside stops a second is at most one step from the one before it. Assumes nothing.
use mathlib.Core.Path.{◌≡◌, refl, sym, ap, subst, ◌∙◌}
use mathlib.Core.Bool.{Bool, true, false, cond}
use mathlib.Core.List.{List}
use Prim.Native.Nat.{ℕ, ◌+◌, ◌-◌, ◌≤◌, ◌<◌}
use native.Mathlib.Numerals.{add-one}
use native.Mathlib.Omega.{arith}
use lib.Dec.{ltb}
use lib.ListN.{length}
use Rattle.std.specs.Prelude.{Ok}
use Rattle.house.specs.House.{count_of, flags_at, stop_at, no_first_at}
use Rattle.vehicle.specs.declared.VehicleSheet.{VehicleSheet}
use Rattle.row.specs.Row.{gear_at}
use Rattle.phase.specs.Phase.{stop_end, stop_gear}
use Rattle.gear.specs.Sheet.{gear_answer}
use Rattle.driven.specs.Rows.{AtMostOneStep}
use Rattle.driven.proofs.Smoothing.{Fit}
use Rattle.claims.specs.Rows.{finished_row, Written, Driven}
use Rattle.claims.proofs.Rows.{row-held, accepted-sound, outside_kept, length-kept, gear-is, clutch-is, clutch-bit}
use Rattle.phase.proofs.Stops.{last-gear}
use Rattle.row.proofs.Ranges.{least_by, least-range}
use Rattle.claims.proofs.Finished.{row-fit}

module _ (trace : List ℕ) (v : VehicleSheet) (buffer : List ℕ) (start : ℕ) (accepted : gear_answer trace v (length buffer) start ≡ Ok tt) where
  -- all of it at once
  held : Fit trace (count_of trace) v.gears (finished_row trace v buffer start)
  held =
      let ranged = (accepted-sound trace v buffer start accepted).of_vehicle.ranged in
      subst (Fit trace (count_of trace) v.gears) (sym (row-held trace v buffer start accepted)) (row-fit v ranged.gears.0 trace (count_of trace))

  -- the stop rule holds of the finished row too
  pub stop-kept : (k : ℕ) → k < count_of trace → stop_at trace k ≡ true
      → gear_at (finished_row trace v buffer start) k ≡ stop_gear (stop_end trace (count_of trace) k - k)
  stop-kept k l e = (held.second k l).halts e

  -- the last second of a stop run, before a second that is no stop or at the end
  pub stop-ends-in-first : (k : ℕ) → k < count_of trace → stop_at trace k ≡ true → (k + 1 < count_of trace → stop_at trace (k + 1) ≡ false)
      → gear_at (finished_row trace v buffer start) k ≡ 1
  stop-ends-in-first k l e next = stop-kept k l e ∙ last-gear trace (count_of trace) k l e next

  -- no gear that the vehicle has not
  pub gear-most : (k : ℕ) → k < count_of trace → gear_at (finished_row trace v buffer start) k ≤ v.gears
  gear-most k l = go (stop_at trace k) refl
    where
      one-most : (b : Bool) → cond b 0 1 ≤ 1
      one-most true = omega arith
      one-most false = omega arith

      go : (b : Bool) → stop_at trace k ≡ b → gear_at (finished_row trace v buffer start) k ≤ v.gears
      go false e = ((held.second k l).drives e).high
      go true e =
          let gears = (accepted-sound trace v buffer start accepted).of_vehicle.ranged.gears in
          omega (arith, stop-kept k l e, one-most (ltb 5 (stop_end trace (count_of trace) k - k)), gears.0)

  -- gear 0, neutral
  pub neutral-only-in-stop : (k : ℕ) → k < count_of trace → gear_at (finished_row trace v buffer start) k ≡ 0 → stop_at trace k ≡ true
  neutral-only-in-stop k l neutral = go (stop_at trace k) refl
    where
      go : (b : Bool) → stop_at trace k ≡ b → b ≡ true
      go true e = refl
      go false e =
          let low = ((held.second k l).drives e).low in
          absurd (let z : ⊥ = omega (arith, low, (least-range (flags_at trace k)).low) in z)

  -- the mark "no 1. gear" holds to the end, past corrections 3 to 6 too
  pub no-first-kept : (k : ℕ) → k < count_of trace → stop_at trace k ≡ false → no_first_at trace k ≡ true
      → gear_at (finished_row trace v buffer start) k ≡ 1 → ⊥
  no-first-kept k l e mark one =
      let least : least_by (flags_at trace k) ≡ 2 = ap (λ (b : Bool). cond b 2 1) mark in
      omega (arith, least, ((held.second k l).drives e).low)

  -- correction 5's bound holds past correction 6 too, and after a stop; a stop itself may come from any gear
  pub one-step : (k : ℕ) → k + 1 < count_of trace → stop_at trace (k + 1) ≡ false
      → AtMostOneStep (gear_at (finished_row trace v buffer start) k) (gear_at (finished_row trace v buffer start) (k + 1))
  one-step k l e =
      subst (λ (j : ℕ). AtMostOneStep (gear_at (finished_row trace v buffer start) k) (gear_at (finished_row trace v buffer start) j)) (sym (add-one k))
      (held.near k (omega arith) (ap (stop_at trace) (sym (add-one k)) ∙ e))

  -- all that is claimed of the buffer, and of a second
  pub written : Written trace v buffer start
  written =
      let outside = outside_kept trace v buffer start accepted in
      record { row = row-held trace v buffer start accepted; before = outside.0; behind = outside.1; long = length-kept trace v buffer start accepted }

  pub driven : (k : ℕ) → k < count_of trace → Driven trace v (finished_row trace v buffer start) k
  driven k l =
      record {
        gear = gear-is trace v buffer start accepted k;
        clutch = clutch-is trace v buffer start accepted k l;
        in_or_out = clutch-bit trace v buffer start accepted k l;
        most = gear-most k l;
        neutral = neutral-only-in-stop k l;
        stopped = stop-kept k l;
        in_first = stop-ends-in-first k l;
        not_first = no-first-kept k l;
        next = one-step k;
      }
