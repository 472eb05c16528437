-- What the loop of `write_all` keeps: as many vehicles are written as the blocks before hold, and at the end all.
use Rattle.std.proofs.Common.{◌≡◌, length, min}
use Rattle.plan.specs.Lanes.{rows_up_to, answers_up_to}
use Rattle.plan.proofs.write_all.Given as goal

abbrev pub invariant-loop-from : goal.invariant-loop-from
invariant-loop-from l = record {
  tables_long : length l.tables ≡ 288;
  lanes_long : length l.lanes ≡ 32000;
  rows_long : length l.rows ≡ length l.initial.rows;
  answers_long : length l.answers ≡ length l.initial.answers;
  rows : l.rows ≡ rows_up_to l.trace.bytes.now l.sheets l.trace.seconds l.initial.rows (min l.from l.count);
  answers : l.answers ≡ answers_up_to l.trace.bytes.now l.sheets l.trace.seconds l.initial.answers (min l.from l.count);
}
