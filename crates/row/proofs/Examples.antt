-- Short rows, computed by the definitions themselves: each shows one of corrections 1 to 5, or one of its exceptions. Assumes nothing.
use mathlib.Core.Path.{◌≡◌, refl}
use mathlib.Core.List.{List, [], ◌∷◌}
use Prim.Native.Nat.{ℕ, zero, suc, ◌+◌}
use lib.ListN.{length}
use Rattle.row.specs.declared.Rule.TheVariants.{NoFirst, NoShift, NoDrop, OneStep}
use Rattle.row.specs.Corrections.{capped, cap_after, cap_runs, ruled, pass_by}

-- the phases stop, acceleration, cruise and deceleration, and a phase with the mark "no gear-shift" or "no 1. gear"
abbrev pub halt : ℕ
halt = 0

abbrev pub up : ℕ
up = 1

abbrev pub level : ℕ
level = 2

abbrev pub down : ℕ
down = 3

abbrev pub keep : ℕ → ℕ
keep phase = phase + 4

abbrev pub not1 : ℕ → ℕ
not1 phase = phase + 8

abbrev pub cruises : ℕ → List ℕ
cruises zero = []
cruises (suc n) = level ∷ cruises n

-- a trace of seconds with these flags, behind a head that no correction looks at, and a row of these gears
abbrev pub seconds : List ℕ → List ℕ
seconds [] = []
seconds (flags ∷ rest) = 0 ∷ 0 ∷ flags ∷ 0 ∷ seconds rest

abbrev pub trace_of : List ℕ → List ℕ
trace_of flags = 0 ∷ 0 ∷ 0 ∷ 0 ∷ 0 ∷ 0 ∷ 0 ∷ 0 ∷ seconds flags

abbrev pub row_of : List ℕ → List ℕ
row_of [] = []
row_of (gear ∷ rest) = gear ∷ 0 ∷ row_of rest

-- a correction takes a row of seconds with these flags from these gears to those
abbrev pub Takes : (List ℕ → List ℕ → ℕ → List ℕ) → List ℕ → List ℕ → List ℕ → Type 0
Takes correction flags from to = correction (trace_of flags) (row_of from) (length flags) ≡ row_of to

-- 1: the gear of the acceleration run's last second caps the deceleration run
cap-after-acceleration : Takes cap_runs (up ∷ up ∷ down ∷ down ∷ []) (2 ∷ 3 ∷ 4 ∷ 2 ∷ []) (2 ∷ 3 ∷ 3 ∷ 2 ∷ [])
unfolding capped cap_after
cap-after-acceleration = refl

-- 1: not directly after it
no-cap-after-cruise : Takes cap_runs (up ∷ level ∷ down ∷ []) (2 ∷ 4 ∷ 4 ∷ []) (2 ∷ 4 ∷ 4 ∷ [])
unfolding capped cap_after
no-cap-after-cruise = refl

-- 2, and a stop second is never changed
first-gear-barred : Takes (pass_by NoFirst) (not1 level ∷ level ∷ not1 halt ∷ []) (1 ∷ 1 ∷ 1 ∷ []) (2 ∷ 1 ∷ 1 ∷ [])
unfolding ruled
first-gear-barred = refl

-- 3, a cascade: each takes the gear that the one before it was given
shift-barred : Takes (pass_by NoShift) (level ∷ keep level ∷ keep level ∷ []) (4 ∷ 3 ∷ 2 ∷ []) (4 ∷ 4 ∷ 4 ∷ [])
unfolding ruled
shift-barred = refl

-- 3: unless that second is a stop
shift-barred-after-a-stop : Takes (pass_by NoShift) (halt ∷ keep up ∷ []) (1 ∷ 2 ∷ []) (1 ∷ 2 ∷ [])
unfolding ruled
shift-barred-after-a-stop = refl

-- 3: not 1 on a "no 1. gear" second
shift-barred-puts-1 : Takes (pass_by NoShift) (level ∷ keep (not1 level) ∷ []) (1 ∷ 3 ∷ []) (1 ∷ 2 ∷ [])
unfolding ruled
shift-barred-puts-1 = refl

-- 4, a cascade, and not after cruise
no_drop : Takes (pass_by NoDrop) (level ∷ up ∷ up ∷ up ∷ []) (5 ∷ 4 ∷ 3 ∷ 2 ∷ []) (5 ∷ 4 ∷ 4 ∷ 4 ∷ [])
unfolding ruled
no_drop = refl

-- 5, a cut
one-step-up : Takes (pass_by OneStep) (level ∷ level ∷ []) (2 ∷ 5 ∷ []) (2 ∷ 3 ∷ [])
unfolding ruled
one-step-up = refl

-- 5, a cascade
one-step-down : Takes (pass_by OneStep) (down ∷ down ∷ down ∷ []) (6 ∷ 4 ∷ 2 ∷ []) (6 ∷ 5 ∷ 4 ∷ [])
unfolding ruled
one-step-down = refl

-- 5 holds after a stop too
one-step-after-a-stop : Takes (pass_by OneStep) (halt ∷ up ∷ []) (1 ∷ 4 ∷ []) (1 ∷ 2 ∷ [])
unfolding ruled
one-step-after-a-stop = refl

-- gear 8, the highest that a sheet can have, is a gear like any other: it is no more capped by nothing before it, kept, and reached and left by one step
gear-8-uncapped : Takes cap_runs (down ∷ up ∷ down ∷ []) (8 ∷ 8 ∷ 8 ∷ []) (8 ∷ 8 ∷ 8 ∷ [])
unfolding capped cap_after
gear-8-uncapped = refl

gear-8-kept : Takes (pass_by NoShift) (level ∷ keep level ∷ []) (8 ∷ 7 ∷ []) (8 ∷ 8 ∷ [])
unfolding ruled
gear-8-kept = refl

gear-8-by-one-step : Takes (pass_by OneStep) (level ∷ level ∷ level ∷ level ∷ []) (6 ∷ 8 ∷ 8 ∷ 5 ∷ []) (6 ∷ 7 ∷ 8 ∷ 7 ∷ [])
unfolding ruled
gear-8-by-one-step = refl
