-- A humidity of at most 30 leaves a divisor above zero.
use mathlib.Core.Path.{◌∙◌}
use mir.Syntax.{w64}
use mir.Val.{SFits}
use mir.ValLaws.{to_z-of_z}
use borrow.Author.Rules.{rules}
use Rattle.arith.proofs.Parts.{zs}
use Rattle.stage.proofs.Steps.{vapour-most, divisor-least}
use Rattle.stage.proofs.kh.Goals as goal

pub divided-requires : goal.divided-requires
divided-requires c =
    let d : SFits w64 c.signed-divisor.result = search rules in
    let r = c.requires in
    rw (to_z-of_z w64 c.signed-divisor.result d ∙ simp (c.vapour-g.ensures, c.dry-b.ensures) at c.signed-divisor.ensures)
    (omega (zs, divisor-least r, vapour-most r.ranges, r.ranges.low))
