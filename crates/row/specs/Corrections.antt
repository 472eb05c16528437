-- 01, Corrections, 1 to 5: "in this order, each from the first second to the last". A correction is a step at each second in turn, on the row
-- as it then is, so the preceding second is taken as this correction has already left it.
use Rattle.std.specs.Prelude.{ℕ, ◌+◌, ◌-◌, min, max, Bool, not, cond, ◌&&◌, List, eqb}
use Rattle.walk.specs.Walk.{in_turn}
use Rattle.house.specs.House.{flags_at, stop, acceleration, deceleration, no_shift, no_first}
use Rattle.row.specs.declared.Rule.{Rule}
use Rattle.row.specs.declared.Rule.TheVariants.{NoFirst, NoShift, NoDrop, OneStep}
use Rattle.row.specs.Row.{gear_at, set_gear}

-- Correction 1: "A deceleration run directly after an acceleration run: the smaller of its own gear and that run's last gear."
-- The cap is that last gear. 255 stands for no cap: no byte is above it, so the smaller of it and a gear is the gear
abbrev pub uncapped : ℕ
uncapped = 255

unfoldable pub capped : ℕ → ℕ → ℕ → ℕ
capped flags cap own = cond (deceleration flags) (min own cap) own

-- the cap of the next second: an acceleration second's own gear, kept through a deceleration run
unfoldable pub cap_after : ℕ → ℕ → ℕ → ℕ
cap_after flags cap own = cond (acceleration flags) own (cond (deceleration flags) cap uncapped)

-- the row and the cap, after second k
abbrev pub cap_step : List ℕ → List ℕ × ℕ → ℕ → List ℕ × ℕ
cap_step trace state k = (
  set_gear state.0 k (capped (flags_at trace k) state.1 (gear_at state.0 k)),
  cap_after (flags_at trace k) state.1 (gear_at state.0 k),
)

abbrev pub cap_runs : List ℕ → List ℕ → ℕ → List ℕ
cap_runs trace row n = (in_turn (cap_step trace) (row, uncapped) n).0

-- Correction 2: "'No 1. gear': 1 becomes 2."
abbrev pub not_first : ℕ → ℕ → ℕ
not_first flags gear = cond (no_first flags && eqb gear 1) 2 gear

-- Correction 3: "'No gear-shift': the preceding second's gear, unless that second is a stop; where this puts 1 on a 'no 1. gear' second, 2."
-- Correction 4: "Acceleration after acceleration: never below the preceding gear."
-- Correction 5: "At most one step up or down from the preceding second; a larger one is cut to one."
-- `former` and `before` are the flags and the gear of the preceding second; "the first second has no predecessor"
abbrev pub by_rule : Rule → Bool → ℕ → ℕ → ℕ → ℕ → ℕ
by_rule NoFirst first former flags before own = not_first flags own
by_rule NoShift first former flags before own = cond (no_shift flags && not first && not (stop former)) (not_first flags before) own
by_rule NoDrop first former flags before own = cond (acceleration flags && not first && acceleration former) (max before own) own
by_rule OneStep first former flags before own = cond first own (max (before - 1) (min (before + 1) own))

-- "Stop seconds are never changed"
unfoldable pub ruled : Rule → Bool → ℕ → ℕ → ℕ → ℕ → ℕ
ruled rule first former flags before own = cond (stop flags) own (by_rule rule first former flags before own)

abbrev pub rule_step : Rule → List ℕ → List ℕ → ℕ → List ℕ
rule_step rule trace row k = set_gear row k (ruled rule (eqb k 0) (flags_at trace (k - 1)) (flags_at trace k) (gear_at row (k - 1)) (gear_at row k))

abbrev pub pass_by : Rule → List ℕ → List ℕ → ℕ → List ℕ
pass_by rule trace row n = in_turn (rule_step rule trace) row n

-- all five, "in this order"
abbrev pub five_row : List ℕ → List ℕ → ℕ → List ℕ
five_row trace row n =
    pass_by OneStep trace
    (pass_by NoDrop trace
    (pass_by NoShift trace
    (pass_by NoFirst trace
    (cap_runs trace row n) n) n) n) n
