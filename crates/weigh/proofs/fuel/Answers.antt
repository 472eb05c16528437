-- The carbon times k stays below the bound of its size.
use native.Mathlib.Omega.{arith}
use mathlib.Core.Path.{◌∙◌}
use lib.IntN.{pos}
use mir.Syntax.{w64}
use mir.Val.{SFits}
use mir.ValLaws.{to_z-of_z}
use borrow.Author.Rules.{rules}
use Rattle.arith.proofs.Size.{scaled_fits}
use Rattle.weigh.proofs.Sizes.{carbon-size}
use Rattle.weigh.proofs.fuel.Goals as goal

pub scaled-requires : goal.scaled-requires
scaled-requires c =
    let k : SFits w64 c.from.result = search rules in
    let r = c.requires in
    rw (to_z-of_z w64 c.from.result k ∙ c.from.ensures, c.combination-carbon.ensures) (scaled_fits (pos c.args.k) (omega arith) r.k_most (carbon-size r))
