-- The loop of `put_table`: no line is put when it begins, and a turn puts a line more.
use Rattle.std.proofs.Common.{◌≡◌, ◌∙◌, refl, ap, List, ℕ, ◌+◌, ◌*◌, arith, length-set}
use Rattle.std.proofs.Math.ListN.{set}
use Rattle.walk.proofs.Walk.{in_turn-next}
use Rattle.plan.specs.Lanes.{table_at, with_table}
use Rattle.plan.proofs.put_table.Goals as goal

pub loop-i-init : goal.loop-i-init
unfolding with_table
loop-i-init c = (refl, refl)

pub loop-i-preserved : goal.loop-i-preserved
unfolding with_table
loop-i-preserved c =
    let a = c.args in
    let l = c.loop-i in (
      simp length-set (omega arith),
      in_turn-next (λ (tables : List ℕ) (i : ℕ). set tables (16 * i + a.j) (table_at a.v.sheet a.t i)) a.tables.now l.i l.invariant.1 (ap (set l.tables (16 * l.i + a.j)) c.table_at.ensures),
    )

pub returns : goal.returns
returns c =
    let a = c.args in
    let all : c.loop-i.i ≡ 18 = omega arith in
    c.loop-i.invariant.1 ∙ ap (with_table a.v.sheet a.t a.j a.tables.now) all
