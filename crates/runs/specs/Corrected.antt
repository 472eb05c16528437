-- 01, Corrections: all six, "in this order".
use Rattle.std.specs.Prelude.{ℕ, List}
use Rattle.row.specs.declared.Rule.TheVariants.{NoFirst, NoShift, NoDrop, OneStep}
use Rattle.row.specs.Corrections.{cap_runs, pass_by}
use Rattle.runs.specs.Runs.{smoothed}

abbrev pub corrected : List ℕ → List ℕ → ℕ → List ℕ
corrected trace row n =
    smoothed trace
    (pass_by OneStep trace
    (pass_by NoDrop trace
    (pass_by NoShift trace
    (pass_by NoFirst trace
    (cap_runs trace row n) n) n) n) n) n
