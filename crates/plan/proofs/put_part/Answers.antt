-- `put_part`: the part is lent, and what stands before and behind it stays.
use Rattle.std.proofs.Common.{◌≡◌, ◌∙◌, ap, List, ℕ, ◌+◌, ◌-◌, ◌*◌, ◌++◌, take, drop, arith}
use Rattle.std.proofs.Math.Seq.{drop-drop}
use Rattle.plan.specs.Lanes.{lane_row}
use Rattle.plan.proofs.put_part.Goals as goal

pub returns : goal.returns
returns c =
    let a = c.args in
    let long : a.at + 2 * a.n - a.at ≡ 2 * a.n = omega arith in
    ap (λ (row : List ℕ). take a.at a.rows.now ++ (row ++ drop (a.at + 2 * a.n - a.at) (drop a.at a.rows.now))) c.put_row.ensures
    ∙ ap (λ (rest : List ℕ). take a.at a.rows.now ++ (lane_row a.lanes.now a.j a.n ++ rest))
    (ap (λ (m : ℕ). drop m (drop a.at a.rows.now)) long ∙ drop-drop (2 * a.n) a.at a.rows.now)
