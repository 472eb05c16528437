-- Corrections 1 to 5 see of a trace its flags alone: two traces with the same flags have the same corrections. Assumes nothing.
use mathlib.Core.Path.{◌≡◌, ap}
use mathlib.Core.List.{List}
use Prim.Native.Nat.{ℕ, ◌-◌}
use lib.Dec.{eqb}
use Rattle.walk.proofs.Same.{in_turn-same}
use Rattle.house.specs.House.{flags_at}
use Rattle.row.specs.declared.Rule.{Rule}
use Rattle.row.specs.Row.{gear_at, set_gear}
use Rattle.row.specs.Corrections.{uncapped, capped, cap_after, cap_step, cap_runs, ruled, rule_step, pass_by}

module _ (t u : List ℕ) (same : (k : ℕ) → flags_at t k ≡ flags_at u k) where
  pub caps-alike : (row : List ℕ) (n : ℕ) → cap_runs t row n ≡ cap_runs u row n
  caps-alike row n =
      ap (λ (state : List ℕ × ℕ). state.0)
      (in_turn-same (cap_step t) (cap_step u) (row, uncapped) n
      (λ s k l. (λ i. (set_gear s.0 k (capped (same k i) s.1 (gear_at s.0 k)), cap_after (same k i) s.1 (gear_at s.0 k)))))

  pub pass-alike : (rule : Rule) (row : List ℕ) (n : ℕ) → pass_by rule t row n ≡ pass_by rule u row n
  pass-alike rule row n =
      in_turn-same (rule_step rule t) (rule_step rule u) row n
      (λ r k l. (λ i. set_gear r k (ruled rule (eqb k 0) (same (k - 1) i) (same k i) (gear_at r (k - 1)) (gear_at r k))))
