-- An end that is refused gives nothing, and one that is taken what is left.
use Rattle.std.proofs.Common.{◌≡◌, ◌∙◌, refl, ap, rules}
use Rattle.std.specs.Prelude.{Ok, Err}
use Rattle.refusal.specs.Judging.{Judged}
use Rattle.prompt.specs.declared.Engine.{Engine}
use Rattle.prompt.specs.Prompt.{answer_by, judge_end, ended_by, ended}
use Rattle.prompt_crossing.specs.State.{told_by, ended_out, end_out}
use Rattle.prompt_crossing.proofs.end.Goals as goal

told-ended : (e : Engine) → told_by (answer_by (ended e).judged (ended e).given) ≡ ended_out (ended e)
unfolding ended
told-ended e = go (judge_end e)
  where
    go : (j : Judged) → told_by (answer_by (ended_by j e).judged (ended_by j e).given) ≡ ended_out (ended_by j e)
    go (Ok _) = refl
    go (Err refusal) = refl

pub returns : goal.returns
unfolding end_out
returns c =
    let told = c.told.ensures ∙ ap told_by c.end.ensures ∙ told-ended c.args.state.engine in
    search (rules, told)
