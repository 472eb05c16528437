-- The loop of `put_row`: a turn writes a second more, and at the end nothing is left of what was there.
use Rattle.std.proofs.Common.{◌≡◌, ◌∙◌, refl, ap, ℕ, ◌*◌, ◌/◌, ◌%◌, ◌++◌, drop, arith, length-set}
use Rattle.walk.proofs.Walk.{pairs_next}
use Rattle.lanes.specs.Lanes.{lane_at}
use Rattle.gear.proofs.Buffer.{exact}
use Rattle.plan.specs.Lanes.{lane_row}
use Rattle.plan.proofs.put_row.Goals as goal

pub loop-k-preserved : goal.loop-k-preserved
loop-k-preserved c =
    let a = c.args in
    let l = c.loop-k in (
      simp length-set (omega arith),
      pairs_next (λ k. lane_at a.lanes.now a.j k % 128) (λ k. lane_at a.lanes.now a.j k / 128) a.row.now l.k l.invariant.1 refl refl (omega arith),
    )

pub returns : goal.returns
returns c =
    let a = c.args in
    let all : c.loop-k.k ≡ a.n = omega arith in
    c.loop-k.invariant.1
    ∙ ap (λ (k : ℕ). lane_row a.lanes.now a.j k ++ drop (2 * k) a.row.now) all
    ∙ exact (lane_row a.lanes.now a.j a.n) a.row.now (2 * a.n) c.requires.1
