-- A second that is refused gives nothing, and one that is taken what is given.
use Rattle.std.proofs.Common.{◌≡◌, ◌∙◌, refl, ap, rules}
use Rattle.std.specs.Prelude.{Ok, Err}
use Rattle.refusal.specs.Judging.{Judged}
use Rattle.outcome.specs.Outcome.{outcome_of}
use Rattle.prompt.specs.declared.Engine.{Engine}
use Rattle.prompt.specs.declared.Received.{Received}
use Rattle.prompt.specs.Prompt.{answer_by, judge_second, heard_by, heard}
use Rattle.prompt_crossing.specs.State.{told_by, second_out}
use Rattle.prompt_crossing.proofs.second.Goals as goal

told-heard : (e : Engine) (s : Received)
    → told_by (answer_by (heard e s).judged (heard e s).given) ≡ record { outcome = outcome_of (heard e s).judged; given = (heard e s).given }
unfolding heard
told-heard e s = go (judge_second e s)
  where
    go : (j : Judged) → told_by (answer_by (heard_by j e s).judged (heard_by j e s).given) ≡ record { outcome = outcome_of (heard_by j e s).judged; given = (heard_by j e s).given }
    go (Ok _) = refl
    go (Err refusal) = refl

pub returns : goal.returns
unfolding second_out
returns c =
    let told = c.told-answer.ensures ∙ ap told_by c.hear.ensures.0 ∙ told-heard c.args.state.engine c.args.s in
    search (rules, told)
