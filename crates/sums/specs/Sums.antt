-- 02, M-107: "the exact alternating sum of the terms x^k / k! from k = 0 to N, as a fraction". Here x is over / under.
use Rattle.std.specs.Prelude.{Bool, cond, ℕ, zero, suc, ◌+◌, ◌*◌, ◌%◌, eqb}
use Rattle.arith.specs.Fraction.{Fraction, ◌+ᶠ◌, ◌-ᶠ◌}
use Rattle.vehicle.specs.declared.VehicleSheet.{VehicleSheet}
use Rattle.shift.specs.Exponential.{exact_term}

abbrev pub even : ℕ → Bool
even k = eqb (k % 2) 0

-- term 0 - term 1 + term 2 - .. to term n: even terms are added, odd ones taken away
unfoldable pub alternating : (ℕ → Fraction) → ℕ → Fraction
alternating term zero = term zero
alternating term (suc n) = cond (even (suc n)) (alternating term n +ᶠ term (suc n)) (alternating term n -ᶠ term (suc n))

abbrev pub exact_sum : ℕ → ℕ → ℕ → Fraction
exact_sum over under n = alternating (exact_term over under) n

-- "x = 19 P / (100 (m + 75))"
abbrev pub exact_power : VehicleSheet → ℕ → Fraction
exact_power v n = exact_sum (19 * v.power) (100 * (v.mass + 75)) n
