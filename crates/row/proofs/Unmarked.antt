-- Where no second has a mark, corrections 2 and 3 have nothing to act on: each leaves the row as it is (02, M-109). Assumes nothing.
use mathlib.Core.Path.{◌≡◌, refl, ap, ◌∙◌}
use mathlib.Core.Bool.{Bool, true, false, cond, ◌||◌, true≢false}
use mathlib.Core.List.{List}
use Prim.Native.Nat.{ℕ, zero, suc, ◌-◌, ◌*◌, ◌<◌}
use lib.Dec.{eqb}
use lib.Seq.{set-get_or}
use Rattle.walk.specs.Walk.{in_turn}
use Rattle.walk.proofs.Same.{in_turn-same}
use Rattle.house.specs.House.{flags_at, stop, no_shift, no_first, marked}
use Rattle.row.specs.declared.Rule.{Rule}
use Rattle.row.specs.declared.Rule.TheVariants.{NoFirst, NoShift}
use Rattle.row.specs.Row.{gear_at, set_gear}
use Rattle.row.specs.Corrections.{ruled, rule_step, pass_by}

-- no mark is neither
no-marks : (a b : Bool) → (a || b) ≡ false → (a ≡ false) × (b ≡ false)
no-marks false b e = (refl, e)
no-marks true b e = absurd (true≢false e)

-- the rules that act on a mark alone
pub data OnMark : Rule → Type 0 where
  first : OnMark NoFirst
  shift : OnMark NoShift

same_cond : (b : Bool) {own new : ℕ} → new ≡ own → cond b own new ≡ own
same_cond true e = refl
same_cond false e = e

idle : {rule : Rule} → OnMark rule → (begins : Bool) (former flags before own : ℕ) → marked flags ≡ false → ruled rule begins former flags before own ≡ own
unfolding ruled
idle first begins former flags before own e =
    let none = no-marks (no_shift flags) (no_first flags) e in
    same_cond (stop flags) (rw none.1)
idle shift begins former flags before own e =
    let none = no-marks (no_shift flags) (no_first flags) e in
    same_cond (stop flags) (rw none.0)

stays : (row : List ℕ) (n : ℕ) → in_turn (λ (r : List ℕ) k. r) row n ≡ row
stays row zero = refl
stays row (suc n) = stays row n

pub pass-idle : {rule : Rule} → OnMark rule → (trace row : List ℕ) (n : ℕ) → ((k : ℕ) → k < n → marked (flags_at trace k) ≡ false) → pass_by rule trace row n ≡ row
pass-idle {rule} on trace row n none =
    in_turn-same (rule_step rule trace) (λ (r : List ℕ) k. r) row n
    (λ r k l. ap (set_gear r k) (idle on (eqb k 0) (flags_at trace (k - 1)) (flags_at trace k) (gear_at r (k - 1)) (gear_at r k) (none k l)) ∙ set-get_or r (2 * k) 0)
    ∙ stays row n
