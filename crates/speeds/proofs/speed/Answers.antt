-- Ten times an engine speed is far below what a word holds.
use Rattle.std.proofs.Common.{arith}
use Rattle.arith.proofs.Size.{wider-size, divided-size, scaled_fits}
use Rattle.speeds.proofs.speed.Goals as goal

pub scaled-requires : goal.scaled-requires
scaled-requires c =
    rw c.divided-engine.ensures
    (scaled_fits {m = 10} {k = 600000000} _ (omega arith) (omega arith)
    (divided-size 4294967296 (omega arith) (wider-size (omega arith) c.requires.0)))
