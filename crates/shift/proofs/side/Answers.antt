-- The rise and the foot are those of the definition, which fit.
use Rattle.std.proofs.Common.{◌≡◌, pos, to_z, of_z, w64}
use Rattle.std.proofs.lemmas.Int.{to_z-of_z}
use Rattle.arith.proofs.Machine.{handed}
use Rattle.shift.proofs.Sides.{foot-fits, side-fits}
use Rattle.shift.proofs.side.Goals as goal

pub sum-requires : goal.sum-requires
sum-requires c =
    let span : to_z w64 (of_z w64 c.from.result) ≡ pos c.args.span = handed c.from.result c.from.type_inv c.from.ensures in
    let idle : to_z w64 (of_z w64 c.from-2.result) ≡ pos c.args.idle = handed c.from-2.result c.from-2.type_inv c.from-2.ensures in
    let rise = rw span at c.scaled-rise.ensures in
    let foot = simp (idle, to_z-of_z w64 _ (foot-fits c.requires)) at c.exactly-foot.ensures in
    rw (rise, foot) (side-fits c.requires)
