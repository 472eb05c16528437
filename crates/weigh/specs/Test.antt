-- The stages of a whole test (01, Bag sheet and figures), from its parts' rates to the weighted result, the fuel and the verdicts.
use Rattle.std.specs.Prelude.{cond, List, [], ◌∷◌, ℕ, ◌-◌, ◌*◌, get_or, pos}
use Rattle.std.specs.Int.Signed.{le_z, lt_z}
use Rattle.arith.specs.declared.Ends.{Ends}
use Rattle.arith.specs.Stages.{scaled_by, divided_by}
use Rattle.weigh.specs.declared.Weights.{Weights}
use Rattle.weigh.specs.declared.Verdict.{Verdict}
use Rattle.weigh.specs.declared.Verdict.TheVariants.{Pass, Fail, Undecided}
use Rattle.stage.specs.Combination.{combination_of}

-- ---- weights, in percent
abbrev pub percent : ℕ → ℕ → ℕ → Weights
percent first second third = record { first = first; second = second; third = third }

-- "class 1, parts 50 and 50 percent; class 2, 30 and 70; class 3, 25, 50 and 25" (001, table 8-1), a missing third part at 0
abbrev pub table : List Weights
table = percent 50 50 0 ∷ percent 30 70 0 ∷ percent 25 50 25 ∷ []

abbrev pub weights_of : ℕ → Weights
weights_of class = get_or table (class - 1) (percent 0 0 0)

-- "Weighted", the rates of the parts each at its weight (001, equation 8-16)
unfoldable pub weighted_of : Weights → Ends → Ends → Ends → Ends
weighted_of weights first second third =
    divided_by (combination_of weights.first first weights.second second weights.third third) (pos 100)

-- ---- fuel
-- "Fuel, microlitres per 100 km: k (f1 HC + f2 CO + f3 CO2) / (10,000 x fuel density), from the weighted ends" (001, equations 8-14 and 8-15)
unfoldable pub fuel_of : ℕ → ℕ → ℕ → ℕ → ℕ → Ends → Ends → Ends → Ends
fuel_of k f1 f2 f3 density hc co co2 = divided_by (scaled_by (pos k) (combination_of f1 hc f2 co f3 co2)) (pos (10000 * density))

-- ---- verdict
-- "pass, upper end at or below the limit; fail, lower end above; else undecided"
unfoldable pub verdict_of : Ends → ℕ → Verdict
verdict_of rate limit = cond (le_z rate.upper (pos limit)) Pass (cond (lt_z (pos limit) rate.lower) Fail Undecided)
