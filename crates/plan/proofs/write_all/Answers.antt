-- The loop of `write_all`: a block has room behind those before it, and a turn writes a block more.
use Rattle.std.proofs.Common.{◌≡◌, ◌∙◌, refl, ap, List, ℕ, ◌+◌, ◌*◌, length, min, arith}
use Rattle.plan.specs.Plan.{vehicles_in}
use Rattle.plan.specs.Lanes.{rows_from, answers_from, rows_up_to, answers_up_to}
use Rattle.plan.proofs.Places.{block-fits}
use Rattle.plan.proofs.Blocks.{rows_on, answers-on}
use Rattle.plan.proofs.write_all.Goals as goal

pub write_lanes-requires : goal.write_lanes-requires
write_lanes-requires c =
    let a = c.args in
    let l = c.loop-from in
    let few = c.min-few.ensures in
    let fits = block-fits (2 * a.trace.seconds) l.from c.min-few.result (vehicles_in (length a.sheets.now)) (length a.rows.now) (omega (arith, few)) c.requires.in_rows in
    record {
      read = c.requires.read;
      marked = c.judge_marks-marks.ensures;
      in_tables = omega (arith, l.invariant.tables_long);
      in_lanes = omega (arith, l.invariant.lanes_long, c.requires.read.few);
      sixteen = omega (arith, few);
      begins = refl;
      in_sheets = omega (arith, few);
      in_answers = omega (arith, few, l.invariant.answers_long, c.requires.in_answers);
      in_rows = omega (arith, fits, l.invariant.rows_long);
    }

-- as many vehicles as are written before the block, and those of the block
module _ (trace sheets : List ℕ) (n from few m : ℕ) (next : from + few ≡ m) {before : ℕ} (here : before ≡ from) where
  rows_further : (rows₀ : List ℕ) {rows rows' : List ℕ} → rows ≡ rows_up_to trace sheets n rows₀ before → rows' ≡ rows_from trace sheets n from rows few
      → rows' ≡ rows_up_to trace sheets n rows₀ m
  rows_further rows₀ e wrote =
      rows_on trace sheets n from few rows₀ (e ∙ ap (rows_up_to trace sheets n rows₀) here) wrote ∙ ap (rows_up_to trace sheets n rows₀) next

  answers-further : (answers₀ : List ℕ) {answers answers' : List ℕ} → answers ≡ answers_up_to trace sheets n answers₀ before
      → answers' ≡ answers_from trace sheets n from answers few → answers' ≡ answers_up_to trace sheets n answers₀ m
  answers-further answers₀ e wrote =
      answers-on trace sheets n from few answers₀ (e ∙ ap (answers_up_to trace sheets n answers₀) here) wrote ∙ ap (answers_up_to trace sheets n answers₀) next

pub loop-from-preserved : goal.loop-from-preserved
loop-from-preserved c =
    let a = c.args in
    let l = c.loop-from in
    let count = vehicles_in (length a.sheets.now) in
    let few = c.min-few.ensures in
    let here : min l.from count ≡ l.from = omega arith in
    let next : l.from + c.min-few.result ≡ min (l.from + 16) count = omega (arith, few) in
    let wrote = c.write_lanes in
    record {
      tables_long = omega arith;
      lanes_long = wrote.auto.lanes ∙ l.invariant.lanes_long;
      rows_long = wrote.auto.rows ∙ l.invariant.rows_long;
      answers_long = wrote.auto.answers ∙ l.invariant.answers_long;
      rows = rows_further a.trace.bytes.now a.sheets.now a.trace.seconds l.from _ _ next here a.rows.now l.invariant.rows wrote.ensures.0;
      answers = answers-further a.trace.bytes.now a.sheets.now a.trace.seconds l.from _ _ next here a.answers.now l.invariant.answers wrote.ensures.1;
    }

-- behind the last block
pub returns-2 : goal.returns-2
returns-2 c =
    let a = c.args in
    let l = c.loop-from in
    let count = vehicles_in (length a.sheets.now) in
    let few = c.min-few.ensures in
    let here : min l.from count ≡ l.from = omega arith in
    let next : l.from + c.min-few.result ≡ count = omega (arith, few) in
    let wrote = c.write_lanes in (
      rows_further a.trace.bytes.now a.sheets.now a.trace.seconds l.from _ _ next here a.rows.now l.invariant.rows wrote.ensures.0,
      answers-further a.trace.bytes.now a.sheets.now a.trace.seconds l.from _ _ next here a.answers.now l.invariant.answers wrote.ensures.1,
    )
