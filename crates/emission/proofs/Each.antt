-- The verdict that is made for each gas is each gas's. Assumes nothing.
use mathlib.Core.Path.{◌≡◌}
use Rattle.std.specs.Prelude.{Option}
use Rattle.refusal.specs.declared.Gas.{Gas}
use Rattle.bag.proofs.Gas.{among-each}
use Rattle.weigh.specs.declared.Verdict.{Verdict}
use Rattle.emission.specs.Test.{verdict_at, each_verdict}

pub verdict-at : (gas : Gas) (f : Gas → Option Verdict) → verdict_at gas (each_verdict f) ≡ f gas
unfolding each_verdict
verdict-at gas f = among-each gas f
