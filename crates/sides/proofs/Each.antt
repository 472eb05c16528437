-- What is made for each gas is each gas's. Assumes nothing.
use mathlib.Core.Path.{◌≡◌}
use Rattle.arith.specs.declared.Ends.{Ends}
use Rattle.refusal.specs.declared.Gas.{Gas}
use Rattle.bag.proofs.Gas.{among-each}
use Rattle.sides.specs.Gases.{ends_at, each}

pub each_at : (gas : Gas) (f : Gas → Ends) → ends_at gas (each f) ≡ f gas
unfolding each
each_at gas f = among-each gas f
