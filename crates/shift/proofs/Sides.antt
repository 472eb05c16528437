-- How large the two sides can be, and what an accepted sheet gives the shift speeds. Assumes nothing.
use Prim.Native.Nat.{ℕ, ◌+◌, ◌-◌, ◌*◌, ◌≤◌}
use native.Mathlib.Nat.{le_refl}
use native.Mathlib.Omega.{arith}
use lib.Dec.{lit<, lit≤}
use lib.IntN.{pos, nat_abs, ◌*ℤ◌}
use mir.Syntax.{w64}
use mir.Val.{SFits}
use Rattle.arith.specs.declared.Ends.{Ends}
use Rattle.arith.specs.Stages.{exactly, scaled_by}
use Rattle.arith.specs.Fitting.{SumFits, DifferenceFits, ScaledFits, Sized}
use Rattle.arith.proofs.Size.{exactly-size, scaled-size, sum-size, difference-size, wider-size, scaled_fits, sum_fits, difference-fits}
use Rattle.vehicle.specs.declared.VehicleSheet.{VehicleSheet}
use Rattle.vehicle.specs.Sheet.{Sound}
use Rattle.shift.specs.Exponential.{Exponent}
use Rattle.shift.specs.Speeds.{power_of, side_unit, side_of, share, higher_part, tenth, first_part, first_side, higher_side, shift_of, ShiftRanges}
use Rattle.shift.specs.Accepted.{largest_side, Geared, Worked}
use Rattle.shift.specs.Fitting.{SideFits}
use Rattle.shift.proofs.Terms.{exponential-size}

-- ---- a side
module _ {part : Ends} {span idle : ℕ} (f : SideFits part span idle) where
  pub rise-fits : ScaledFits (pos span) part
  rise-fits = scaled_fits {m = 20000} (pos span) (lit< tt) f.wide f.size

  pub foot-fits : SFits w64 (side_unit *ℤ pos idle)
  foot-fits = record { sfits = omega (arith, f.low) }

  pub side-fits : SumFits (scaled_by (pos span) part) (exactly (side_unit *ℤ pos idle))
  side-fits =
      let foot : nat_abs (side_unit *ℤ pos idle) ≤ 130000000000000000 = omega (arith, f.low) in
      sum_fits {m = 20000 * 120000000000000} (lit< tt) (scaled-size (pos span) f.wide f.size) (exactly-size _ foot)

side-size : {part : Ends} {span idle : ℕ} → SideFits part span idle → Sized largest_side (side_of part span idle)
unfolding side_of
side-size {part} {span} {idle} f =
    let foot : 42949672960000 * idle ≤ 128849018880000000 = omega (arith, f.low) in
    sum-size (scaled-size (pos span) f.wide f.size) (exactly-size _ foot)

tenth-size : Sized 4300000000000 tenth
tenth-size = exactly-size _ (lit≤ tt)

-- ---- of an accepted sheet
module _ {v : VehicleSheet} (s : Sound v) where
  pub exponent : Exponent (19 * v.power) (100 * (v.mass + 75))
  exponent =
      let m = s.ranged.mass in
      record { some = omega (arith, m); small = omega (arith, m); mild = omega (arith, s.mild) }

  pub part-fits : ScaledFits (pos share) (power_of v)
  part-fits = scaled_fits (pos share) (lit< tt) (le_refl share) (exponential-size exponent)

  part-size : Sized (share * 20000000000) (higher_part v)
  part-size = scaled-size (pos share) (le_refl share) (exponential-size exponent)

  pub less-fits : DifferenceFits (higher_part v) tenth
  less-fits = difference-fits (lit< tt) part-size tenth-size

  less-size : Sized (share * 20000000000 + 4300000000000) (first_part v)
  less-size = difference-size part-size tenth-size

  sided : {m : ℕ} {part : Ends} → m ≤ 120000000000000 → Sized m part → SideFits part (v.rated - v.idle) v.idle
  sided h j =
      let r = s.ranged in
      record { size = wider-size h j; wide = omega (arith, r.rated); low = r.idle.1 }

  pub higher-fits : SideFits (higher_part v) (v.rated - v.idle) v.idle
  higher-fits = sided (lit≤ tt) part-size

  pub first_fits : SideFits (first_part v) (v.rated - v.idle) v.idle
  first_fits = sided (lit≤ tt) less-size

  pub shift-ranges : ShiftRanges (shift_of v)
  unfolding shift_of
  shift-ranges =
      let g = s.ranged.gears in
      record { some = g.0; range = record { few = g.1; ndvs = λ i l. (s.ndv i l).1 } }

  pub vehicle-geared : Geared (shift_of v)
  unfolding shift_of first_side higher_side
  vehicle-geared =
      record {
        first = side-size first_fits;
        higher = side-size higher-fits;
        some = s.ranged.gears.0;
        ndvs = λ i l. omega (arith, (s.ndv i l).0);
        slow = let r = s.ranged in omega (arith, r.rated, r.idle);
      }

  pub vehicle-worked : Worked (shift_of v)
  unfolding shift_of
  vehicle-worked = record { geared = vehicle-geared; ranges = shift-ranges; ratios = λ i l. (s.ndv i l).0 }
