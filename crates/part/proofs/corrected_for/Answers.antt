-- NOx is one of the gases whose sizes are known.
use borrow.Author.Rules.{rules}
use Rattle.refusal.specs.declared.Gas.TheVariants.{CO, NOx}
use Rattle.part.proofs.corrected_for.Goals as goal

pub nox_mass-nox-requires : goal.nox_mass-nox-requires
nox_mass-nox-requires c =
    let co = c.requires.0 CO in
    let nox = c.requires.0 NOx in
    record { mass_size = search rules; kh_size = c.requires.1 }
