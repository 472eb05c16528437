-- No speed at the lowest engine speed is more than 3,600 tenths.
use Rattle.std.proofs.Common.{◌≡◌, pos, to_z, of_z, w64, arith}
use Rattle.std.proofs.lemmas.Int.{to_z-of_z}
use Rattle.arith.specs.Rounding.{div_up}
use Rattle.arith.proofs.Parts.{zs}
use Rattle.arith.proofs.Machine.{handed}
use Rattle.arith.proofs.Size.{abs-parts, up-size}
use Rattle.tenths.proofs.not_below.Goals as goal

pub from_zero-requires : goal.from_zero-requires
from_zero-requires c =
    let low = c.args.lowest in
    let h = c.requires.0 in
    let ndv : to_z w64 (of_z w64 c.from.result) ≡ pos c.args.ndv = handed c.from.result c.from.type_inv c.from.ensures in
    let lowest : to_z w64 low ≡ pos low = to_z-of_z w64 (pos low) (record { sfits = omega arith }) in
    let up : to_z w64 (of_z w64 c.div_up.result) ≡ div_up (pos low) (pos c.args.ndv) =
    handed c.div_up.result c.div_up.type_inv (rw (ndv, lowest) at c.div_up.ensures) in
    let few = up-size (pos low) c.args.ndv 3600 (omega (arith, c.requires.1)) (omega (arith, h, c.requires.1)) in
    rw up (omega (zs, abs-parts (div_up (pos low) (pos c.args.ndv))))
