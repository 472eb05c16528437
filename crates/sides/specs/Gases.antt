-- The ends of each gas, and ends for each.
use Rattle.std.specs.Prelude.{pos}
use Rattle.arith.specs.declared.Ends.{Ends}
use Rattle.arith.specs.Stages.{exactly}
use Rattle.refusal.specs.declared.Gas.{Gas}
use Rattle.refusal.specs.declared.Gas.TheVariants.{HC, CO, NOx, CO2, NMHC}
use Rattle.bag.specs.Gas.{among}
use Rattle.sides.specs.declared.Gases.{Gases}

abbrev pub ends_at : Gas → Gases → Ends
ends_at gas g = among gas g.hc g.co g.nox g.co2 g.nmhc

unfoldable pub each : (Gas → Ends) → Gases
each f = record { hc = f HC; co = f CO; nox = f NOx; co2 = f CO2; nmhc = f NMHC }

unfoldable pub nothing : Gases
nothing = each (λ gas. exactly (pos 0))
