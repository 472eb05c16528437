-- By tenths it is what it is by the ends.
use Rattle.std.proofs.Common.{◌≡◌, ◌∙◌, ap, List, ℕ}
use Rattle.std.specs.Prelude.{Ok}
use Rattle.std.proofs.lemmas.Result.{err_from_is_err_and}
use Rattle.refusal.specs.Judging.{Judged, if_accepted}
use Rattle.shift.specs.declared.Shift.{Shift}
use Rattle.shift.specs.Speeds.{shift_of}
use Rattle.own.specs.Own.{judge_close, put_own, gears_after}
use Rattle.own.proofs.ByTenths.{put_same, marked-same}
use Rattle.own.proofs.own_gears.Goals as goal

-- the list, as the comparisons were told
after-told : (s : Shift) (trace own : List ℕ) (n : ℕ) {told : Judged} → told ≡ judge_close s trace 0 n → if_accepted told (put_own s trace own n) own ≡ gears_after s trace own n
unfolding gears_after
after-told s trace own n e = ap (λ (j : Judged). if_accepted j (put_own s trace own n) own) e

pub returns-in_err-judge_marked : goal.returns-in_err-judge_marked
returns-in_err-judge_marked c =
    let a = c.args in
    let s = shift_of a.v.sheet in
    let told = rw c.of_vehicle-t.ensures at c.in_err-judge_marked.ensures ∙ marked-same a.v.sound a.trace.bytes.now a.trace.seconds c.requires.0 in
    let p = err_from_is_err_and c.from_residual.result c.from_residual.ensures.1 in
    (rw (p.1, p.2) told, after-told s a.trace.bytes.now a.own.now a.trace.seconds told)

pub returns : goal.returns
returns c =
    let a = c.args in
    let s = shift_of a.v.sheet in
    let told : ◌≡◌ {A = Judged} (Ok tt) (judge_close s a.trace.bytes.now 0 a.trace.seconds) =
    rw c.of_vehicle-t.ensures at c.in_ok-judge_marked.ensures ∙ marked-same a.v.sound a.trace.bytes.now a.trace.seconds c.requires.0 in (
      told,
      rw c.of_vehicle-t.ensures at c.put_gears.ensures ∙ put_same a.v.sound a.trace.bytes.now a.trace.seconds c.requires.0 a.own.now
          ∙ after-told s a.trace.bytes.now a.own.now a.trace.seconds told,
    )
