-- The calls of a bench come to what the engine comes to that hears the same seconds. Assumes nothing.
use mathlib.Core.Path.{◌≡◌, refl, sym, ap, ◌∙◌}
use mathlib.Core.Bool.{cond}
use mathlib.Core.List.{List, [], ◌++◌, append-nil}
use Prim.Native.Nat.{ℕ, zero, suc}
use lib.Dec.{eqb}
use Rattle.refusal.specs.declared.Refusal.{Refusal}
use Rattle.std.specs.Prelude.{Ok, Err}
use Rattle.refusal.specs.Judging.{Judged}
use Rattle.refusal.proofs.Numbers.{number-some}
use Rattle.vehicle.specs.declared.VehicleSheet.{VehicleSheet}
use Rattle.live.specs.Live.{packed}
use Rattle.prompt.specs.declared.Received.{Received}
use Rattle.prompt.specs.Prompt.{judge_begin, begun, heard}
use Rattle.prompt.specs.Run.{Run, received_at, bytes_of, go_on, run_to}
use Rattle.outcome.specs.Outcome.{outcome_of}
use Rattle.prompt_crossing.specs.declared.LiveState.{LiveState}
use Rattle.prompt_crossing.specs.declared.LiveAnswer.{LiveAnswer}
use Rattle.prompt_crossing.specs.declared.LiveEnd.{LiveEnd}
use Rattle.prompt_crossing.specs.State.{no_engine, begin_by, begin_out, heard_out, second_out, end_out}
use Rattle.live_row.specs.Statements.{state_after, given_after, Never}

-- what a bench keeps of a run
abbrev pub state_of : Run → LiveState
state_of r = record { outcome = outcome_of r.judged; engine = r.engine }

-- ---- one call
state-next : (r : Run) (s : Received) → (second_out (state_of r) s).state ≡ state_of (go_on r.judged r s)
unfolding second_out
state-next r s = go r.judged refl
  where
    go : (j : Judged) → r.judged ≡ j → (second_out (state_of r) s).state ≡ state_of (go_on j r s)
    go (Ok _) e = ap (λ (j : Judged). (cond (eqb (outcome_of j).number 0) (heard_out (heard r.engine s)) (record { state = state_of r; given = packed 0 [] })).state) e
    go (Err refusal) e =
        ap (λ (j : Judged). (cond (eqb (outcome_of j).number 0) (heard_out (heard r.engine s)) (record { state = state_of r; given = packed 0 [] })).state) e
        ∙ rw (number-some refusal)

bytes_next : (r : Run) (s : Received) → r.bytes ++ bytes_of (second_out (state_of r) s).given ≡ (go_on r.judged r s).bytes
unfolding second_out
bytes_next r s = go r.judged refl
  where
    go : (j : Judged) → r.judged ≡ j → r.bytes ++ bytes_of (second_out (state_of r) s).given ≡ (go_on j r s).bytes
    go (Ok _) e = ap (λ (j : Judged). r.bytes ++ bytes_of (cond (eqb (outcome_of j).number 0) (heard_out (heard r.engine s)) (record { state = state_of r; given = packed 0 [] })).given) e
    go (Err refusal) e =
        ap (λ (j : Judged). r.bytes ++ bytes_of (cond (eqb (outcome_of j).number 0) (heard_out (heard r.engine s)) (record { state = state_of r; given = packed 0 [] })).given) e
        ∙ rw (number-some refusal) (append-nil r.bytes)

-- ---- all calls
module _ (version : ℕ) (v : VehicleSheet) (accepted : judge_begin version v ≡ Ok tt) (trace : List ℕ) where
  pub state-is : (n : ℕ) → state_after version v trace n ≡ state_of (run_to (begun version v) trace n)
  unfolding state_after run_to begin_out
  state-is zero = ap (λ (j : Judged). begin_by j version v) accepted
  state-is (suc n) =
      ap (λ (state : LiveState). (second_out state (received_at trace n)).state) (state-is n) ∙ state-next (run_to (begun version v) trace n) (received_at trace n)

  pub given_is : (n : ℕ) → given_after version v trace n ≡ (run_to (begun version v) trace n).bytes
  unfolding given_after run_to
  given_is zero = refl
  given_is (suc n) =
      (λ i. given_is n i ++ bytes_of (second_out (state-is n i) (received_at trace n)).given) ∙ bytes_next (run_to (begun version v) trace n) (received_at trace n)

-- ---- a start that is refused
module _ (version : ℕ) (v : VehicleSheet) (refusal : Refusal) (refused : judge_begin version v ≡ Err refusal) (trace : List ℕ) where
  abbrev state : LiveState
  state = record { outcome = outcome_of (Err refusal); engine = no_engine }

  began : begin_out version v ≡ state
  unfolding begin_out
  began = ap (λ (j : Judged). begin_by j version v) refused

  again : (s : Received) → second_out state s ≡ record { state = state; given = packed 0 [] }
  unfolding second_out
  again s = rw (number-some refusal)

  ends : end_out state ≡ record { outcome = outcome_of (Err refusal); given = packed 0 [] }
  unfolding end_out
  ends = rw (number-some refusal)

  stays : (n : ℕ) → state_after version v trace n ≡ state
  unfolding state_after
  stays zero = began
  stays (suc n) = ap (λ (s : LiveState). (second_out s (received_at trace n)).state) (stays n) ∙ ap (λ (a : LiveAnswer). a.state) (again (received_at trace n))

  none : (n : ℕ) → given_after version v trace n ≡ []
  unfolding given_after
  none zero = refl
  none (suc n) =
      (λ i. none n i ++ bytes_of (second_out (stays n i) (received_at trace n)).given) ∙ ap (λ (a : LiveAnswer). bytes_of a.given) (again (received_at trace n))

  -- 02, M-110: "1 for a named version not 1 or 2, then 5 to 7, before the first second"
  pub never-begun : (n : ℕ) → Never version v trace n
  never-begun n = record {
    stays = stays n ∙ sym began;
    nothing = (λ i. none n i ++ bytes_of (end_out (stays n i)).given) ∙ ap (λ (e : LiveEnd). bytes_of e.given) ends;
  }
