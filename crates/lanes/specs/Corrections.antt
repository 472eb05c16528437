-- 01, Corrections, 1 to 5, of the rows of all lanes.
use Rattle.std.specs.Prelude.{ℕ, ◌*◌, ◌<◌, ◌≤◌, ◌≡◌, Bool, List, length}
use Rattle.row.specs.declared.Rule.{Rule}
use Rattle.row.specs.declared.Rule.TheVariants.{NoFirst, NoShift, NoDrop, OneStep}
use Rattle.row.specs.Corrections.{capped, cap_after, ruled, five_row}
use Rattle.lanes.specs.Lanes.{lane_at, line_by, Holds}

-- the lines that are put at second k, one after the other: the caps, and the gears after correction 1
abbrev pub cap_lines : ℕ → List ℕ → ℕ → List ℕ → List ℕ
cap_lines flags lanes k kept =
    line_by (λ m j. capped flags (lane_at m j 0) (lane_at lanes j k)) 3 (line_by (λ m j. cap_after flags (lane_at m j 0) (lane_at lanes j k)) 0 kept 16) 16

-- the gears after a correction by a rule, in the line `to`, which has those of the second before, from those in the line `own`
abbrev pub rule_line : Rule → Bool → ℕ → ℕ → ℕ → ℕ → List ℕ → List ℕ
rule_line rule first former flags own to kept = line_by (λ m j. ruled rule first former flags (lane_at m j to) (lane_at m j own)) to kept 16

-- after corrections 2 to 5
abbrev pub rule_lines : Bool → ℕ → ℕ → List ℕ → List ℕ
rule_lines first former flags kept =
    rule_line OneStep first former flags 2 4
    (rule_line NoDrop first former flags 1 2
    (rule_line NoShift first former flags 3 1
    (rule_line NoFirst first former flags 3 3 kept)))

-- one second of a lane, whose own gear is `own`: what the lines 0, 1, 2 and 4 had of the second before it, and what they then have
pub record LaneStepped (first : Bool) (former flags own : ℕ) (cap third fourth fifth cap' third' fourth' fifth' : ℕ) : Type 0 where
  pub caps : cap' ≡ cap_after flags cap own
  pub thirds : third' ≡ ruled NoShift first former flags third (ruled NoFirst first former flags 0 (capped flags cap own))
  pub fourths : fourth' ≡ ruled NoDrop first former flags fourth third'
  pub fifths : fifth' ≡ ruled OneStep first former flags fifth fourth'

-- second k of all lanes: it gets the gear after correction 5, and no other second is changed
pub record Stepped (first : Bool) (former flags k : ℕ) (lanes lanes' kept kept' : List ℕ) : Type 0 where
  pub long : length lanes' ≡ length lanes
  pub long_kept : length kept' ≡ length kept
  pub others : (j i : ℕ) → j < 16 → (i ≡ k → ⊥) → lane_at lanes' j i ≡ lane_at lanes j i
  pub second : (j : ℕ) → j < 16 → lane_at lanes' j k ≡ lane_at kept' j 4
  pub lane : (j : ℕ) → j < 16
      → LaneStepped first former flags (lane_at lanes j k) (lane_at kept j 0) (lane_at kept j 1) (lane_at kept j 2) (lane_at kept j 4)
      (lane_at kept' j 0) (lane_at kept' j 1) (lane_at kept' j 2) (lane_at kept' j 4)

-- what they make of the lanes: of the row of each lane that row
pub record Corrects (trace before after : List ℕ) (n : ℕ) : Type 0 where
  pub long : length after ≡ length before
  pub lane : (j : ℕ) → j < 16 → (row : List ℕ) → 2 * n ≤ length row → Holds before row n j → Holds after (five_row trace row n) n j
