-- What is kept of a row's gears.
use Rattle.std.specs.Prelude.{ℕ, ◌+◌, ◌≤◌}

-- a gear and the one before it: at most one step up or down
pub record AtMostOneStep (before gear : ℕ) : Type 0 where
  pub up : gear ≤ before + 1
  pub down : before ≤ gear + 1
