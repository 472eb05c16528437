-- What G of the bag, the weighted result and the carbon in the fuel have in common: three numbers, each with its own factor.
use Rattle.std.specs.Prelude.{ℕ, pos}
use Rattle.arith.specs.declared.Ends.{Ends}
use Rattle.arith.specs.Stages.{sum_of, scaled_by}

-- j a + k b + l c
unfoldable pub combination_of : ℕ → Ends → ℕ → Ends → ℕ → Ends → Ends
combination_of j a k b l c = sum_of (sum_of (scaled_by (pos j) a) (scaled_by (pos k) b)) (scaled_by (pos l) c)
