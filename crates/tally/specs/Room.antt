-- What the machine needs of a tally's numbers: how large they are for at most m entries.
use Rattle.std.specs.Prelude.{ℕ, ◌+◌, ◌*◌, ◌≤◌}
use Rattle.arith.specs.Fitting.{Sized}
use Rattle.tally.specs.declared.Tally.{Tally}
use Rattle.tally.specs.Entries.{most_end}

pub record Roomy (m : ℕ) (t : Tally) : Type 0 where
  pub counted : t.passed + t.failed ≤ t.count
  pub few : t.count ≤ m
  pub sums : Sized (m * most_end) t.sum
