-- After the last turn the marks are those of all seven.
use Rattle.std.proofs.Common.{◌≡◌, ◌∙◌, ap, arith, ltb}
use Rattle.shift.specs.Speeds.{count}
use Rattle.tenths.specs.Choice.{mark_at, marked}
use Rattle.tenths.proofs.is_marked.Goals as goal

pub returns : goal.returns
unfolding marked
returns c =
    let t = c.args.t in
    let ended : c.loop-i.i ≡ 7 = omega arith in
    ap (ltb 0) (c.loop-i.invariant.0 ∙ ap (count (mark_at t.above t.not_below)) ended)
