-- How large the weighted ends and the carbon in the fuel can be. Assumes nothing.
use mathlib.Core.Path.{◌≡◌, refl, ap}
use Prim.Native.Nat.{ℕ, zero, suc, ◌+◌, ◌*◌, ◌≤◌}
use native.Mathlib.Omega.{arith}
use Rattle.arith.specs.declared.Ends.{Ends}
use Rattle.arith.specs.Fitting.{Sized}
use Rattle.arith.proofs.Size.{divided-size, wider-size}
use Rattle.stage.specs.Combination.{combination_of}
use Rattle.stage.specs.Ranges.{largest_mass}
use Rattle.stage.proofs.Steps.{combination-size}
use Rattle.weigh.specs.declared.Weights.{Weights}
use Rattle.weigh.specs.Test.{weights_of, weighted_of}
use Rattle.weigh.specs.Ranges.{FuelRanges}

-- The weights of a class are a whole
pub weights-whole : (class : ℕ) → 1 ≤ class → class ≤ 3 → (weights_of class).first + (weights_of class).second + (weights_of class).third ≡ 100
weights-whole zero l h = absurd (omega arith)
weights-whole (suc zero) l h = refl
weights-whole (suc (suc zero)) l h = refl
weights-whole (suc (suc (suc zero))) l h = refl
weights-whole (suc (suc (suc (suc class)))) l h = absurd (omega arith)

-- so the weighted ends are no larger than the rates
pub weighted-size :
    {m : ℕ} {first second third : Ends} (weights : Weights) → weights.first + weights.second + weights.third ≡ 100 →
    Sized m first → Sized m second → Sized m third → Sized m (weighted_of weights first second third)
unfolding weighted_of
weighted-size {m} weights e s t u =
    let f : (weights.first + weights.second + weights.third) * m ≡ 100 * m = ap (λ (n : ℕ). n * m) e in
    divided-size 100 (omega arith)
    (wider-size (omega arith)
    (combination-size {j = weights.first} {k = weights.second} {l = weights.third} weights.first weights.second weights.third
    (omega arith) (omega arith) (omega arith) s t u))

-- fuel: k times the carbon reaches 92 % of 2^63
pub carbon-size : {k f1 f2 f3 density : ℕ} {hc co co2 : Ends} → FuelRanges k f1 f2 f3 density hc co co2 →
    Sized (3000 * (10 * largest_mass)) (combination_of f1 hc f2 co f3 co2)
carbon-size {f1 = f1} {f2 = f2} {f3 = f3} r =
    combination-size f1 f2 f3 r.f1_most r.f2_most r.f3_most r.hc_size r.co_size r.co2_size
