-- The gears of a row through the six corrections, from the shift speeds on: each second has one that it allows, and is near the one before it outside stops. Assumes nothing.
use mathlib.Core.Path.{◌≡◌, sym, ap, subst}
use mathlib.Core.Bool.{Bool, true, false, cond}
use mathlib.Core.List.{List}
use Prim.Native.Nat.{ℕ, ◌-◌, ◌*◌, ◌≤◌}
use native.Mathlib.Omega.{arith}
use lib.ListN.{length}
use Rattle.house.specs.House.{flags_at, speed_at, stop, acceleration}
use Rattle.shift.specs.declared.Shift.{Shift}
use Rattle.shift.specs.Speeds.{above_at, tally_of, by_set1, goes_first, own_gear, Own}
use Rattle.shift.proofs.Counting.{count_most}
use Rattle.shift.proofs.Sets.{first, by-sets}
use Rattle.row.specs.declared.Rule.TheVariants.{NoFirst, NoShift, NoDrop, OneStep}
use Rattle.row.specs.Corrections.{cap_runs, pass_by, five_row}
use Rattle.phase.specs.Phase.{first_row}
use Rattle.runs.specs.Corrected.{corrected}
use Rattle.own.specs.Own.{own_second, own_at}
use Rattle.row.proofs.Passes.{cap-length, pass-length}
use Rattle.row.proofs.Ranges.{FromTo}
use Rattle.phase.proofs.Stops.{first-length}
use Rattle.driven.proofs.Gears.{Set1Range}
use Rattle.driven.proofs.Seconds.{first-second, cap-second, pass-second}
use Rattle.driven.proofs.Smoothing.{Fit, pass-near, smoothed-fit}

-- ---- the gears that the shift speeds give
module _ (s : Shift) (enough : 3 ≤ s.gears) where
  set-1-range : Set1Range s
  unfolding by_set1 tally_of
  set-1-range true speed =
      let few = count_most (above_at s.first s.higher s.ndv speed) (s.gears - 1) in
      record { low = omega arith; high = omega arith }
  set-1-range false speed =
      let few = count_most (above_at s.first s.higher s.ndv speed) (s.gears - 2) in
      record { low = omega arith; high = omega arith }

  -- under either rule set: gear 1 is one of a vehicle's
  own_range : (accelerates : Bool) (speed : ℕ) → FromTo 1 s.gears (own_gear s accelerates speed).gear
  own_range accelerates speed = rw by-sets (go (goes_first s accelerates speed))
    where
      own : Own
      own = by_set1 s accelerates speed

      go : (is : Bool) → FromTo 1 s.gears (cond is (first own) own).gear
      go true = record { low = omega arith; high = omega arith }
      go false = set-1-range accelerates speed

  second_range : (flags speed : ℕ) → stop flags ≡ false → FromTo 1 s.gears (own_second s flags speed).gear
  unfolding own_second
  second_range flags speed e =
      let own = own_gear s (acceleration flags) speed in
      let is : own_second s flags speed ≡ own = ap (λ (b : Bool). cond b (record { gear = 0; close = false }) own) e in
      subst (λ (o : Own). FromTo 1 s.gears o.gear) (sym is) (own_range (acceleration flags) speed)

  -- ---- through the corrections
  module _ (trace : List ℕ) (n : ℕ) where
    -- the first five
    pub five-fit : Fit trace n s.gears (five_row trace (first_row (λ k. (own_at s trace k).gear) trace n) n)
    five-fit =
        let row₀ = first_row (λ k. (own_at s trace k).gear) trace n in
        let row₁ = cap_runs trace row₀ n in
        let row₂ = pass_by NoFirst trace row₁ n in
        let row₃ = pass_by NoShift trace row₂ n in
        let row₄ = pass_by NoDrop trace row₃ n in
        let long₀ : 2 * n ≤ length row₀ = omega (arith, first-length (λ k. (own_at s trace k).gear) trace n) in
        let long₁ : 2 * n ≤ length row₁ = omega (arith, cap-length trace row₀ n) in
        let long₂ : 2 * n ≤ length row₂ = omega (arith, pass-length NoFirst trace row₁ n) in
        let long₃ : 2 * n ≤ length row₃ = omega (arith, pass-length NoShift trace row₂ n) in
        let long₄ : 2 * n ≤ length row₄ = omega (arith, pass-length NoDrop trace row₃ n) in
        let some : 2 ≤ s.gears = omega arith in
        let second₀ = first-second trace n s.gears some (λ k. (own_at s trace k).gear) (λ k l e. second_range (flags_at trace k) (speed_at trace k) e) in
        let second₁ = cap-second trace n s.gears some row₀ long₀ second₀ in
        let second₂ = pass-second trace n s.gears some NoFirst row₁ long₁ second₁ in
        let second₃ = pass-second trace n s.gears some NoShift row₂ long₂ second₂ in
        let second₄ = pass-second trace n s.gears some NoDrop row₃ long₃ second₃ in
        record {
          long = omega (arith, pass-length OneStep trace row₄ n);
          second = pass-second trace n s.gears some OneStep row₄ long₄ second₄;
          near = pass-near trace row₄ n long₄;
        }

    -- and the sixth
    pub corrected-fit : Fit trace n s.gears (corrected trace (first_row (λ k. (own_at s trace k).gear) trace n) n)
    corrected-fit = smoothed-fit trace n s.gears (five_row trace (first_row (λ k. (own_at s trace k).gear) trace n) n) five-fit
