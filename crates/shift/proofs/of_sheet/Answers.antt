-- What each stage asks: what it is given is that of the definition, which fits by the sheet's ranges.
use Rattle.std.proofs.Common.{◌≡◌}
use Rattle.shift.specs.Speeds.{higher_part, first_part}
use Rattle.shift.proofs.Sides.{part-fits, less-fits, first_fits, higher-fits}
use Rattle.shift.proofs.of_sheet.Goals as goal

pub scaled-part-requires : goal.scaled-part-requires
scaled-part-requires c = rw c.exponential-e.ensures (part-fits c.args.v.sound)

pub difference-less-requires : goal.difference-less-requires
difference-less-requires c =
    let part : c.scaled-part.result ≡ higher_part c.args.v.sheet = rw c.exponential-e.ensures at c.scaled-part.ensures in
    rw (part, c.exactly.ensures) (less-fits c.args.v.sound)

pub side-requires : goal.side-requires
side-requires c =
    let part : c.scaled-part.result ≡ higher_part c.args.v.sheet = rw c.exponential-e.ensures at c.scaled-part.ensures in
    let less : c.difference-less.result ≡ first_part c.args.v.sheet = rw (part, c.exactly.ensures) at c.difference-less.ensures in
    rw less (first_fits c.args.v.sound)

pub side-requires-2 : goal.side-requires-2
side-requires-2 c =
    let part : c.scaled-part.result ≡ higher_part c.args.v.sheet = rw c.exponential-e.ensures at c.scaled-part.ensures in
    rw part (higher-fits c.args.v.sound)
