-- The clutch at the edges of its rule, computed by the definitions themselves. Assumes nothing.
use mathlib.Core.Path.{◌≡◌, refl}
use mathlib.Core.List.{[], ◌∷◌}
use Rattle.row.proofs.Examples.{halt, up, level, down}
use Rattle.vehicle.specs.Engine.{below_lowest}
use Rattle.vehicle.proofs.Examples.{annex, round}
use Rattle.clutch.specs.Clutch.{clutch_of, with_clutch}

-- table A13-3: Annex 13's machine goes from second gear to the clutch below 15.5 km/h
annex-clutch-off : (clutch_of annex down 154 2 ≡ 1) × (clutch_of annex down 155 2 ≡ 0)
unfolding clutch_of below_lowest
annex-clutch-off = (refl, refl)

-- 12 km/h: out in second gear and in in first, whatever the phase outside stop
tall-second : (clutch_of annex up 120 2 ≡ 1) × (clutch_of annex level 120 2 ≡ 1) × (clutch_of annex level 120 1 ≡ 0) × (clutch_of annex up 120 1 ≡ 0)
unfolding clutch_of below_lowest
tall-second = (refl, refl, refl, refl)

-- "at equality it stays in"
at-equality : (clutch_of round level 139 2 ≡ 1) × (clutch_of round level 140 2 ≡ 0)
unfolding clutch_of below_lowest
at-equality = (refl, refl)

-- "below 10.0 km/h" in first gear, where the engine is fast enough from 9.4 km/h on; and at a stop whatever its speed
below-ten : (clutch_of round up 99 1 ≡ 1) × (clutch_of round up 100 1 ≡ 0) × (clutch_of round halt 100 1 ≡ 1)
unfolding clutch_of below_lowest
below-ten = (refl, refl, refl)

-- gears that no finished row has outside stops: neutral, and past the eighth
no-such-gear : (clutch_of round up 2000 0 ≡ 1) × (clutch_of round up 2000 9 ≡ 1)
unfolding clutch_of below_lowest
no-such-gear = (refl, refl)

-- each second by its own gear, whatever the rule; here the rule is the gear itself
own-gear : with_clutch (λ k gear. gear) (1 ∷ 9 ∷ 2 ∷ 9 ∷ 3 ∷ 9 ∷ []) 2 ≡ 1 ∷ 1 ∷ 2 ∷ 2 ∷ 3 ∷ 9 ∷ []
unfolding with_clutch
own-gear = refl
