-- What the shift speeds of an accepted sheet have. Gears count from 0 here.
use Rattle.std.specs.Prelude.{ℕ, ◌≤◌, ◌<◌, get_or}
use Rattle.arith.specs.Fitting.{Sized}
use Rattle.shift.specs.declared.Shift.{Shift}
use Rattle.shift.specs.Speeds.{ShiftRanges}

-- the largest side of an accepted sheet: its terms' sizes, at the widest span and the highest idle
abbrev pub largest_side : ℕ
largest_side = 2528849018880000000

-- what the shift speeds of an accepted sheet have
pub record Geared (s : Shift) : Type 0 where
  pub first : Sized largest_side s.first
  pub higher : Sized largest_side s.higher
  pub some : 3 ≤ s.gears
  pub ndvs : (i : ℕ) → i < s.gears → 1 ≤ get_or s.ndv i 0
  pub slow : s.lowest ≤ 3600000

-- and what their whole tenths ask besides
pub record Worked (s : Shift) : Type 0 where
  pub geared : Geared s
  pub ranges : ShiftRanges s
  pub ratios : (i : ℕ) → i < s.gears → 1000 ≤ get_or s.ndv i 0
