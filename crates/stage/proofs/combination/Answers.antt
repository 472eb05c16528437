-- The three products and their sums stay below the bounds of their sizes.
use native.Mathlib.Omega.{arith}
use mathlib.Core.Path.{◌∙◌}
use lib.IntN.{pos}
use mir.Syntax.{w64}
use mir.Val.{SFits}
use mir.ValLaws.{to_z-of_z}
use borrow.Author.Rules.{rules}
use Rattle.arith.proofs.Size.{scaled_fits, scaled-size, sum_fits, sum-size}
use Rattle.stage.proofs.combination.Goals as goal

pub sum-requires : goal.sum-requires
sum-requires c =
    let j : SFits w64 c.from.result = search rules in
    let k : SFits w64 c.from-2.result = search rules in
    let r = c.requires in
    simp (simp to_z-of_z at c.scaled.ensures, simp to_z-of_z at c.scaled-2.ensures, c.from.ensures, c.from-2.ensures)
    (sum_fits (omega arith) (scaled-size (pos c.args.j) r.j_most r.a_size) (scaled-size (pos c.args.k) r.k_most r.b_size))

pub scaled-requires-3 : goal.scaled-requires-3
scaled-requires-3 c =
    let l : SFits w64 c.from-3.result = search rules in
    let r = c.requires in
    rw (to_z-of_z w64 c.from-3.result l ∙ c.from-3.ensures) (scaled_fits (pos c.args.l) (omega arith) r.l_most r.c_size)

pub sum-requires-2 : goal.sum-requires-2
sum-requires-2 c =
    let j : SFits w64 c.from.result = search rules in
    let k : SFits w64 c.from-2.result = search rules in
    let l : SFits w64 c.from-3.result = search rules in
    let r = c.requires in
    simp (
      c.sum.ensures,
      simp to_z-of_z at c.scaled.ensures,
      simp to_z-of_z at c.scaled-2.ensures,
      simp to_z-of_z at c.scaled-3.ensures,
      c.from.ensures,
      c.from-2.ensures,
      c.from-3.ensures,
    )
    (sum_fits (omega arith) (sum-size (scaled-size (pos c.args.j) r.j_most r.a_size) (scaled-size (pos c.args.k) r.k_most r.b_size))
    (scaled-size (pos c.args.l) r.l_most r.c_size))
