-- The masses' sizes are what the rates ask.
use Rattle.part.proofs.Sizes.{rates-ranges}
use Rattle.part.proofs.part_of.Goals as goal

pub rates-requires : goal.rates-requires
rates-requires c = rw c.mass_in-mass.ensures (rates-ranges c.requires)
