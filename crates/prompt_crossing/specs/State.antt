-- What a bench keeps between two calls of the live engine and hands back (02, M-110), in numbers alone: what was refused, and the engine. Every state is answered, also one that no
-- call has made.
use Rattle.std.specs.Prelude.{cond, [], ◌∷◌, ℕ, eqb, Result, Ok, Err}
use Rattle.refusal.specs.declared.Refusal.{Refusal}
use Rattle.refusal.specs.Judging.{Judged}
use Rattle.vehicle.specs.declared.VehicleSheet.{VehicleSheet}
use Rattle.live.specs.declared.Given.{Given}
use Rattle.live.specs.Live.{fresh, packed}
use Rattle.prompt.specs.declared.Engine.{Engine}
use Rattle.prompt.specs.declared.Received.{Received}
use Rattle.prompt.specs.Prompt.{judge_begin, begun, Heard, heard, Ended, ended}
use Rattle.outcome.specs.Outcome.{outcome_of}
use Rattle.prompt_crossing.specs.declared.LiveState.{LiveState}
use Rattle.prompt_crossing.specs.declared.LiveAnswer.{LiveAnswer}
use Rattle.prompt_crossing.specs.declared.LiveEnd.{LiveEnd}

-- beside a refusal of the start there is no engine
abbrev pub no_engine : Engine
no_engine = record {
  version = 0;
  v = record { power = 0; mass = 0; rated = 0; idle = 0; gears = 0; ndv = 0 ∷ 0 ∷ 0 ∷ 0 ∷ 0 ∷ 0 ∷ 0 ∷ 0 ∷ []; rules = 0 };
  tenths = record {
    above = 0 ∷ 0 ∷ 0 ∷ 0 ∷ 0 ∷ 0 ∷ 0 ∷ [];
    not_below = 0 ∷ 0 ∷ 0 ∷ 0 ∷ 0 ∷ 0 ∷ 0 ∷ [];
    last = record { above = 0; not_below = 0 };
    gears = 0;
    first = 0;
  };
  live = fresh;
}

abbrev pub begin_by : Judged → ℕ → VehicleSheet → LiveState
begin_by (Ok _) version v = record { outcome = outcome_of (Ok tt); engine = begun version v }
begin_by (Err refusal) version v = record { outcome = outcome_of (Err refusal); engine = no_engine }

unfoldable pub begin_out : ℕ → VehicleSheet → LiveState
begin_out version v = begin_by (judge_begin version v) version v

-- ---- a second. "A call after a refusal answers that refusal again"
abbrev pub heard_out : Heard → LiveAnswer
heard_out h = record { state = record { outcome = outcome_of h.judged; engine = h.engine }; given = h.given }

unfoldable pub second_out : LiveState → Received → LiveAnswer
second_out state s = cond (eqb state.outcome.number 0) (heard_out (heard state.engine s)) (record { state = state; given = packed 0 [] })

-- ---- the end
abbrev pub ended_out : Ended → LiveEnd
ended_out e = record { outcome = outcome_of e.judged; given = e.given }

unfoldable pub end_out : LiveState → LiveEnd
end_out state = cond (eqb state.outcome.number 0) (ended_out (ended state.engine)) (record { outcome = state.outcome; given = packed 0 [] })

-- ---- what a call answers, in numbers alone
abbrev pub told_by : Result Given Refusal → LiveEnd
told_by (Ok given) = record { outcome = outcome_of (Ok tt); given = given }
told_by (Err refusal) = record { outcome = outcome_of (Err refusal); given = packed 0 [] }
