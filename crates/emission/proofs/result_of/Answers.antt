-- The weights are the class's, and the weighted gases no larger than the rates.
use Rattle.emission.proofs.Ranges.{weigh-ranges, weighted-sizes}
use Rattle.emission.proofs.result_of.Goals as goal

pub weighted_gases-weighted-requires : goal.weighted_gases-weighted-requires
weighted_gases-weighted-requires c = rw c.weights_of-w.ensures (weigh-ranges c.requires)

pub fuel_in-requires : goal.fuel_in-requires
fuel_in-requires c =
    let weighted = rw c.weights_of-w.ensures at c.weighted_gases-weighted.ensures in
    (c.requires.tested.fuel, rw weighted (weighted-sizes c.requires))
