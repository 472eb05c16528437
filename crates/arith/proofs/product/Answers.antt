-- The hull of the products with the lower and with the upper end: the calls' equations, one inside the other.
use Rattle.std.proofs.Common.{◌∙◌, w64, rules}
use Rattle.std.specs.Prelude.{FitsSigned}
use Rattle.std.proofs.lemmas.Int.{to_z-of_z}
use Rattle.arith.specs.Stages.{product_of}
use Rattle.arith.proofs.product.Goals as goal

pub returns : goal.returns
unfolding product_of
returns c =
    let low : FitsSigned w64 c.args.a.lower = search rules in
    let high : FitsSigned w64 c.args.a.upper = search rules in
    c.hull.ensures ∙ simp (simp to_z-of_z at c.scaled.ensures, simp to_z-of_z at c.scaled-2.ensures)
