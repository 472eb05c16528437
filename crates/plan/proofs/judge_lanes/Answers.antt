-- The loop of `judge_lanes`: a turn enters a vehicle more, and gives its answer.
use Rattle.std.proofs.Common.{◌∙◌, List, ℕ, ◌+◌, arith}
use Rattle.walk.proofs.Walk.{in_turn-next}
use Rattle.plan.specs.Plan.{sheet_at, with_answer}
use Rattle.plan.specs.Lanes.{vehicle_answer}
use Rattle.plan.proofs.Entering.{lanes_next}
use Rattle.plan.proofs.judge_lanes.Goals as goal

pub loop-j-preserved : goal.loop-j-preserved
loop-j-preserved c =
    let a = c.args in
    let l = c.loop-j in
    let lane = rw c.sheet_at.ensures at c.enter-judged.ensures.1 in
    let answer = rw c.sheet_at.ensures at c.enter-judged.ensures.0 in
    let here = rw answer at lane in
    record {
      tables_long = here.long ∙ l.invariant.tables_long;
      answers_long = c.put_answer.auto.answers ∙ l.invariant.answers_long;
      lanes = lanes_next a.trace.bytes.now a.sheets.now a.trace.seconds a.from l.j l.tables _ (omega arith) l.invariant.lanes here;
      answers =
          in_turn-next (λ (answers : List ℕ) (j : ℕ). with_answer answers (a.from + j) (vehicle_answer a.trace.bytes.now (sheet_at a.sheets.now (a.from + j)) a.trace.seconds)) a.answers.now l.j
          l.invariant.answers (rw answer at c.put_answer.ensures);
    }
