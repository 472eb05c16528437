-- Without marks the corrections are 1, 4, 5 and 6 (02, M-109: "corrections 2 and 3 then have nothing to act on"). Assumes nothing.
use mathlib.Core.Path.{◌≡◌, ap, ◌∙◌}
use mathlib.Core.Bool.{false}
use mathlib.Core.List.{List}
use Prim.Native.Nat.{ℕ, ◌<◌}
use Rattle.house.specs.House.{flags_at, marked}
use Rattle.row.specs.declared.Rule.TheVariants.{NoFirst, NoDrop, OneStep}
use Rattle.row.specs.Corrections.{cap_runs, pass_by}
use Rattle.row.proofs.Unmarked.{first, shift, pass-idle}
use Rattle.runs.specs.Runs.{smoothed}
use Rattle.runs.specs.Corrected.{corrected}

pub unmarked-corrected : (trace row : List ℕ) (n : ℕ) → ((k : ℕ) → k < n → marked (flags_at trace k) ≡ false)
    → corrected trace row n ≡ smoothed trace (pass_by OneStep trace (pass_by NoDrop trace (cap_runs trace row n) n) n) n
unmarked-corrected trace row n none =
    ap (λ (r : List ℕ). smoothed trace (pass_by OneStep trace (pass_by NoDrop trace r n) n) n)
    (pass-idle shift trace (pass_by NoFirst trace (cap_runs trace row n) n) n none ∙ pass-idle first trace (cap_runs trace row n) n none)
