-- The downshift 2 to 1 of Annex 13's machine in 0.001 km/h, by the definition itself: 1,469.500 per minute over 94.91. Assumes nothing.
use mathlib.Core.Path.{◌≡◌, refl}
use Prim.Native.Nat.{ℕ}
use lib.IntN.{pos}
use Rattle.arith.specs.declared.Ends.{Ends}
use Rattle.arith.specs.Rounding.{div_down, div_up}
use Rattle.arith.specs.Stages.{exactly, divided_by}
use Rattle.vehicle.specs.Engine.{lowest_engine_speed}
use Rattle.vehicle.proofs.Examples.{annex}
use Rattle.speeds.specs.Upshifts.{to_first}

-- by rule set; the sides are not looked at
first : ℕ → Ends
first rules =
    to_first
    (record {
      first = exactly (pos 0);
      higher = exactly (pos 0);
      ndv = annex.ndv;
      gears = annex.gears;
      lowest = lowest_engine_speed annex;
      rules = rules;
    })

by-rule-set : (first 2 ≡ record { lower = pos 15483; upper = pos 15484 }) × (first 1 ≡ record { lower = pos 0; upper = pos 0 })
unfolding first to_first divided_by div_down div_up exactly
by-rule-set = (refl, refl)
