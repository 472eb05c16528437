-- `write_lanes`: the tables, the lanes and the rows of the three calls.
use Rattle.std.proofs.Common.{◌∙◌}
use Rattle.plan.proofs.Blocks.{parts_are}
use Rattle.plan.proofs.write_lanes.Goals as goal

pub returns : goal.returns
returns c =
    let a = c.args in (
      c.put_lanes.ensures
          ∙ parts_are a.trace.bytes.now a.sheets.now _ _ _ a.trace.seconds a.from c.finish.ensures a.few a.at c.requires.sixteen c.requires.begins c.judge_lanes.ensures.1 a.rows.now,
      c.judge_lanes.ensures.2,
    )
