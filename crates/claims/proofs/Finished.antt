-- The gears of a finished row: each second has one that it allows, and is near the one before it outside stops. Assumes nothing.
use mathlib.Core.Path.{◌≡◌, sym, subst}
use mathlib.Core.List.{List}
use Prim.Native.Nat.{ℕ, suc, ◌≤◌}
use native.Mathlib.Omega.{arith}
use Rattle.house.specs.House.{flags_at}
use Rattle.vehicle.specs.declared.VehicleSheet.{VehicleSheet}
use Rattle.shift.specs.Speeds.{shift_of}
use Rattle.row.specs.Row.{gear_at}
use Rattle.row.proofs.Ranges.{least_by}
use Rattle.gear.specs.Sheet.{row_of}
use Rattle.driven.proofs.Seconds.{Second}
use Rattle.driven.proofs.Smoothing.{Fit}
use Rattle.driven.proofs.Corrected.{corrected-fit}
use Rattle.claims.specs.Rows.{corrected_row}
use Rattle.claims.proofs.Rows.{row-length, row-gear}

pub row-fit : (v : VehicleSheet) → 3 ≤ v.gears → (trace : List ℕ) (n : ℕ) → Fit trace n v.gears (row_of v trace n)
unfolding shift_of
row-fit v enough trace n =
    let same : (k : ℕ) → gear_at (row_of v trace n) k ≡ gear_at (corrected_row v trace n) k = row-gear v trace n in
    let fit = corrected-fit (shift_of v) enough trace n in
    record {
      long = omega (arith, row-length v trace n);
      second = λ k l. subst (Second trace n v.gears (least_by (flags_at trace k)) k) (sym (same k)) (fit.second k l);
      near = λ k l e.
          let near = fit.near k l e in
          let here = same k in
          let next = same (suc k) in
          record { up = omega arith; down = omega arith };
    }
