-- `finish`: the lanes of the four calls, one after the other.
use Rattle.plan.proofs.Rows.{finishes}
use Rattle.plan.proofs.finish.Goals as goal

pub returns : goal.returns
returns c =
    let a = c.args in
    finishes a.trace.bytes.now a.trace.seconds c.requires.0 a.tables.now a.lanes.now _ _ _ _ c.first_rows.ensures c.correct.ensures c.smooth.ensures c.set_clutch.ensures
