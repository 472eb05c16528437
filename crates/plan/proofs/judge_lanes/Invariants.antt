-- What the loop of `judge_lanes` keeps: j vehicles are in their lanes, and have their answers. The measure is how many are left.
use Rattle.std.proofs.Common.{◌≡◌, length}
use Rattle.plan.specs.Lanes.{Lanes, answers_from}
use Rattle.plan.proofs.judge_lanes.Given as goal

abbrev pub invariant-loop-j : goal.invariant-loop-j
invariant-loop-j l = record {
  tables_long : length l.tables ≡ length l.initial.tables;
  answers_long : length l.answers ≡ length l.initial.answers;
  lanes : Lanes l.trace.bytes.now l.sheets l.trace.seconds l.from l.tables l.j;
  answers : l.answers ≡ answers_from l.trace.bytes.now l.sheets l.trace.seconds l.from l.initial.answers l.j;
}
