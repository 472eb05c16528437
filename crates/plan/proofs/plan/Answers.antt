-- `plan`: a refusal comes before the first store, and an accepted call has what its vehicles need.
use Rattle.std.proofs.Common.{◌∙◌, sym}
use Rattle.std.proofs.lemmas.Result.{err_from_is_err_and}
use Rattle.plan.proofs.Whole.{planned, rows_written, answers-written, rows_stay, answers_stay}
use Rattle.plan.proofs.plan.Goals as goal

pub returns-in_err-trace : goal.returns-in_err-trace
returns-in_err-trace c =
    let a = c.args in
    let p = err_from_is_err_and c.from_residual.result c.from_residual.ensures.1 in
    let refused = c.in_err-trace.ensures in
    rw (p.1, p.2)
    (sym refused, rows_stay a.trace.now a.sheets.now a.rows.now a.answers.now _ refused, answers_stay a.trace.now a.sheets.now a.rows.now a.answers.now _ refused)

pub write_all-requires : goal.write_all-requires
write_all-requires c =
    let a = c.args in
    let read = c.in_ok-trace.ensures in
    rw (read.1, read.2) (planned a.trace.now a.sheets.now a.rows.now a.answers.now read.0)

pub returns : goal.returns
returns c =
    let a = c.args in
    let read = c.in_ok-trace.ensures in
    let written = rw (read.1, read.2) at c.write_all.ensures in (
      sym read.0,
      written.0 ∙ rows_written a.trace.now a.sheets.now a.rows.now a.answers.now read.0,
      written.1 ∙ answers-written a.trace.now a.sheets.now a.rows.now a.answers.now read.0,
    )
