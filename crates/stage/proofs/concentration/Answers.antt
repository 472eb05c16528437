-- Q, Q - G, air (Q - G) and bag Q - air (Q - G) are what the laws of proofs/Steps.antt speak of.
use native.Mathlib.Omega.{arith}
use mathlib.Core.Path.{◌∙◌}
use lib.IntN.{pos}
use mir.Syntax.{w64}
use mir.Val.{SFits}
use mir.ValLaws.{to_z-of_z}
use borrow.Author.Rules.{rules}
use Rattle.arith.proofs.Size.{exactly-size, scaled_fits, product-fits, difference-fits}
use Rattle.stage.specs.Part.{concentration_of}
use Rattle.stage.proofs.UpTo.{up_to-size}
use Rattle.stage.proofs.Steps.{rest-up_to, from-air-size, from-bag-size, net-size}
use Rattle.stage.proofs.concentration.Goals as goal
use Rattle.stage.proofs.concentration.Goals.{After-difference, After-difference-2, After-product-from_air, After-from-q}

pub difference-requires : goal.difference-requires
difference-requires c =
    let q : SFits w64 c.from-q.result = search rules in
    let r = c.requires in
    simp (simp to_z-of_z at c.exactly.ensures, c.from-q.ensures) (difference-fits (omega arith) (exactly-size (pos c.args.q) r.q_most) (up_to-size r.g_range))

pub product-from_air-requires : goal.product-from_air-requires
product-from_air-requires c =
    let q : SFits w64 c.from-q.result = search rules in
    let r = c.requires in
    simp (c.difference.ensures, simp to_z-of_z at c.exactly.ensures, c.from-q.ensures)
    (product-fits (omega (arith, r.q_most)) r.air_size (up_to-size (rest-up_to r)))

pub scaled-requires : goal.scaled-requires
scaled-requires c =
    let q : SFits w64 c.from-q.result = search rules in
    let r = c.requires in
    rw (to_z-of_z w64 c.from-q.result q ∙ c.from-q.ensures) (scaled_fits (pos c.args.q) (omega arith) r.q_most r.bag_size)

pub difference-requires-2 : goal.difference-requires-2
difference-requires-2 c =
    let q : SFits w64 c.from-q.result = search rules in
    let r = c.requires in
    simp (
      simp to_z-of_z at c.scaled.ensures,
      c.product-from_air.ensures,
      c.difference.ensures,
      simp to_z-of_z at c.exactly.ensures,
      c.from-q.ensures,
    )
    (difference-fits (omega (arith, r.q_most)) (from-bag-size r) (from-air-size r))

pub scaled-requires-2 : goal.scaled-requires-2
scaled-requires-2 c =
    let q : SFits w64 c.from-q.result = search rules in
    let r = c.requires in
    simp (
      c.difference-2.ensures,
      simp to_z-of_z at c.scaled.ensures,
      c.product-from_air.ensures,
      c.difference.ensures,
      simp to_z-of_z at c.exactly.ensures,
      c.from-q.ensures,
    )
    (scaled_fits {m = 16} (pos 16) (omega (arith, r.q_most)) (omega arith) (net-size r))

pub returns : goal.returns
unfolding concentration_of
returns c =
    let q : SFits w64 c.from-q.result = search rules in
    simp (
      simp to_z-of_z at c.divided.ensures,
      c.scaled-2.ensures,
      c.difference-2.ensures,
      simp to_z-of_z at c.scaled.ensures,
      c.product-from_air.ensures,
      c.difference.ensures,
      simp to_z-of_z at c.exactly.ensures,
      c.from-q.ensures,
    )
