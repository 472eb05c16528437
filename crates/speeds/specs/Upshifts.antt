-- 01, Shift speeds, and 02, M-101: the shift speeds of a vehicle in km/h, as a planner reads them. Every stage gives a lower end rounded down and an upper end rounded up.
-- Gears and shift speeds count from 0 here.
use Rattle.std.specs.Prelude.{cond, [], ◌∷◌, ℕ, ◌+◌, ◌-◌, ◌*◌, get_or, eqb, ltb, pos}
use Rattle.arith.specs.declared.Ends.{Ends}
use Rattle.arith.specs.Stages.{exactly, scaled_by, divided_by}
use Rattle.shift.specs.declared.Shift.{Shift}
use Rattle.shift.specs.Speeds.{side_at}
use Rattle.speeds.specs.declared.ShiftSpeeds.{ShiftSpeeds}

-- the engine speed of a side, which is "10,000 x 2^32 times the engine speed in the bracket": in 1/10,000 per minute
abbrev pub engine_of : Ends → Ends
engine_of side = divided_by side (pos 4294967296)

-- that engine speed over ndv, which is in 0.01 per minute per km/h: in 0.001 km/h
unfoldable pub speed_of : Ends → ℕ → Ends
speed_of side ndv = divided_by (scaled_by (pos 10) (engine_of side)) (pos ndv)

-- the upshift from gear i; none past the last but one
unfoldable pub upshift_at : Shift → ℕ → Ends
upshift_at s i = cond (ltb (i + 1) s.gears) (speed_of (side_at s.first s.higher i) (get_or s.ndv i 0)) (exactly (pos 0))

-- 02, M-101: "a downshift 2 to 1 at (n + 0.03 (s - n)) / ndv2", an engine speed in 0.001 over a ratio in 0.01 per minute per km/h: in 0.001 km/h. Rule set 1
-- has none
unfoldable pub to_first : Shift → Ends
to_first s = cond (eqb s.rules 2) (divided_by (exactly (pos (100 * s.lowest))) (pos (get_or s.ndv 1 0))) (exactly (pos 0))

-- the ng - 1 upshifts, of which the first ng - 2 are the downshifts: "Downshift 3 to 2: the upshift 1 to 2. Downshift i to i-1, i = 4 to ng: the upshift i-2
-- to i-1"; and the downshift 2 to 1
unfoldable pub shift_speeds_of : Shift → ShiftSpeeds
shift_speeds_of s =
    record {
      count = s.gears - 1;
      upshift = upshift_at s 0 ∷ upshift_at s 1 ∷ upshift_at s 2 ∷ upshift_at s 3 ∷ upshift_at s 4 ∷ upshift_at s 5 ∷ upshift_at s 6 ∷ [];
      first = to_first s;
    }
