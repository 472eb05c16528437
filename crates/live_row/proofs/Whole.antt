-- Of every sheet that the gear sheet accepts, the live engine gives the same row. Assumes nothing.
use mathlib.Core.Path.{◌≡◌, refl, ap, ◌∙◌}
use mathlib.Core.Bool.{Bool, true, false, not, cond, ◌&&◌}
use mathlib.Core.List.{List, ◌++◌}
use Prim.Native.Nat.{ℕ, ◌<◌}
use native.Mathlib.Omega.{arith}
use borrow.Author.Tests.{lt-ltb}
use lib.Dec.{eqb}
use Rattle.std.specs.Prelude.{Ok}
use Rattle.refusal.specs.Judging.{Judged}
use Rattle.refusal.proofs.Judging.{then-holds, refused-not}
use Rattle.walk.proofs.Walk.{all-good}
use Rattle.house.specs.House.{version_of, count_of, speed_at, flags_at, marked_at}
use Rattle.trace.specs.Judging.{judge_trace, judge_marks}
use Rattle.trace.proofs.Sound.{version-readable, seconds-good, accepted-sound as trace-sound}
use Rattle.vehicle.specs.declared.VehicleSheet.{VehicleSheet}
use Rattle.vehicle.specs.Sheet.{judge_vehicle, Sound}
use Rattle.vehicle.proofs.Sound.{accepted-sound as vehicle-sound}
use Rattle.shift.specs.Speeds.{shift_of, Own}
use Rattle.own.specs.Own.{own_at, judge_close}
use Rattle.own.proofs.ByTenths.{second-by-tenths}
use Rattle.live.specs.Live.{finish, state_at, given_to}
use Rattle.live.proofs.Causal.{received_is}
use Rattle.live.proofs.Theorems.{live-whole}
use Rattle.gear.specs.Sheet.{marks_by, judge_room, judge_sheet, gear_answer, row_of}
use Rattle.prompt.specs.Prompt.{judge_begin, own_of, may_be, judge_second, judge_end, ended_by, ended}
use Rattle.prompt.specs.Run.{Run, received_at, bytes_of}
use Rattle.prompt.proofs.Fate.{own, engine_at, said_of, running, runs_on, finish-bytes}
use Rattle.outcome.specs.Outcome.{outcome_of}
use Rattle.prompt_crossing.specs.declared.LiveState.{LiveState}
use Rattle.prompt_crossing.specs.State.{end_out}
use Rattle.live_row.specs.Statements.{state_after, given_after, WholeRow}
use Rattle.live_row.proofs.Calls.{state_of, state-is, given_is}

-- ---- what an accepted sheet tells of each second
module _ (trace : List ℕ) (v : VehicleSheet) (room start : ℕ) (accepted : gear_answer trace v room start ≡ Ok tt) where
  abbrev n : ℕ
  n = count_of trace

  answered : (judge_sheet trace v room start ≡ Ok tt) × (judge_close (shift_of v) trace 0 n ≡ Ok tt)
  unfolding gear_answer
  answered = then-holds (judge_sheet trace v room start) (judge_close (shift_of v) trace 0 n) accepted

  read : (judge_trace trace ≡ Ok tt) × (judge_vehicle v ≡ Ok tt) × (marks_by v trace n ≡ Ok tt)
  unfolding judge_sheet
  read =
      let first = then-holds (judge_trace trace) _ answered.0 in
      let second = then-holds (judge_vehicle v) _ first.1 in
      (first.0, second.0, (then-holds (marks_by v trace n) (judge_room n room start) second.1).0)

  sound : Sound v
  sound = vehicle-sound v read.1

  abbrev seconds : ℕ → ℕ
  seconds = own (version_of trace) sound trace

  may-be : (k : ℕ) → k < n → may_be (engine_at (version_of trace) sound trace k) (received_at trace k) ≡ true
  may-be k l = go (eqb v.rules 2) read.2
    where
      go : (b : Bool) → cond b (judge_marks trace 0 n) (Ok tt) ≡ Ok tt → not (b && marked_at trace k) ≡ true
      go true e = all-good (λ k. not (marked_at trace k)) _ _ (Ok tt) (λ k. refused-not) n e k l
      go false e = refl

  not-close : (k : ℕ) → k < n → not (own_of (engine_at (version_of trace) sound trace k) (received_at trace k)).close ≡ true
  not-close k l =
      ap (λ (o : Own). not o.close) (second-by-tenths sound (flags_at trace k) (speed_at trace k) ((trace-sound trace read.0).speeds k l))
      ∙ all-good (λ k. not (own_at (shift_of v) trace k).close) _ _ (Ok tt) (λ k. refused-not) n answered.1 k l

  said-accepted : (k : ℕ) → k < n → said_of (version_of trace) sound trace k ≡ Ok tt
  unfolding judge_second
  said-accepted k l =
      let few = (trace-sound trace read.0).few in
      let received = received_is seconds trace k in
      rw (lt-ltb (state_at seconds trace k).received 2000 (omega arith), seconds-good trace read.0 k l, may-be k l, not-close k l)

  end-accepted : judge_end (engine_at (version_of trace) sound trace n) ≡ Ok tt
  unfolding judge_end
  end-accepted =
      let some = (trace-sound trace read.0).some in
      let received = received_is seconds trace n in
      rw (lt-ltb 0 (state_at seconds trace n).received (omega arith))

  rest-is : bytes_of (ended (engine_at (version_of trace) sound trace n)).given ≡ finish v (state_at seconds trace n)
  unfolding ended
  rest-is = ap (λ (j : Judged). bytes_of (ended_by j (engine_at (version_of trace) sound trace n)).given) end-accepted ∙ finish-bytes v (state_at seconds trace n)

  begins : judge_begin (version_of trace) v ≡ Ok tt
  unfolding judge_begin
  begins = rw (version-readable trace read.0) read.1

  -- the state that a bench then has
  state-all : state_after (version_of trace) v trace n ≡ state_of (running (version_of trace) sound trace n)
  state-all = state-is (version_of trace) v begins trace n ∙ ap state_of (runs_on (version_of trace) sound trace n said-accepted)

  given-all : given_after (version_of trace) v trace n ≡ given_to v seconds trace n
  given-all = given_is (version_of trace) v begins trace n ∙ ap (λ (r : Run). r.bytes) (runs_on (version_of trace) sound trace n said-accepted)

  pub whole_row : WholeRow trace v
  unfolding row_of end_out ended
  whole_row = record {
    accepted = ap (λ (s : LiveState). (end_out s).outcome.number) state-all ∙ ap (λ (j : Judged). (outcome_of (ended_by j (engine_at (version_of trace) sound trace n)).judged).number) end-accepted;
    row = (λ i. given-all i ++ bytes_of (end_out (state-all i)).given) ∙ ap (λ (l : List ℕ). given_to v seconds trace n ++ l) rest-is ∙ live-whole seconds trace n v;
  }
