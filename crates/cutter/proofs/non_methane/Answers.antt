-- What is taken from the other is each of a size that the difference holds.
use native.Mathlib.Omega.{arith}
use mir.Syntax.{w64}
use mir.Val.{SFits}
use mir.ValLaws.{to_z-of_z}
use borrow.Author.Rules.{rules}
use Rattle.arith.proofs.Size.{difference-fits}
use Rattle.stage.proofs.UpTo.{up_to-size}
use Rattle.cutter.proofs.Sizes.{without-up_to, behind-up_to}
use Rattle.cutter.proofs.non_methane.Goals as goal

pub difference-requires : goal.difference-requires
difference-requires c =
    let share : SFits w64 c.from.result = search rules in
    let r = c.requires in
    simp (c.scaled.ensures, simp to_z-of_z at c.scaled-without.ensures, c.from.ensures)
    (difference-fits (omega arith) (up_to-size (without-up_to r)) (up_to-size (behind-up_to r)))
