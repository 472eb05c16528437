-- What was given is the start of the row of every trace that begins with the seconds that were taken. Assumes nothing.
use mathlib.Core.Path.{◌≡◌, refl, sym, ap, ◌∙◌}
use mathlib.Core.List.{List}
use Prim.Native.Nat.{ℕ, suc, ◌-◌, ◌*◌, ◌≤◌}
use mathlib.Core.Bool.{true, false≢true}
use native.Mathlib.Omega.{arith}
use borrow.Author.Tests.{eq-eqb}
use lib.ListN.{take}
use Rattle.std.specs.Prelude.{Ok}
use Rattle.refusal.specs.Table.{number_of}
use Rattle.refusal.proofs.Numbers.{number-some}
use Rattle.house.specs.House.{readable}
use Rattle.vehicle.specs.declared.VehicleSheet.{VehicleSheet}
use Rattle.vehicle.specs.Sheet.{judge_vehicle, Sound}
use Rattle.vehicle.proofs.Sound.{accepted-sound}
use Rattle.shift.specs.Speeds.{shift_of}
use Rattle.own.specs.Own.{own_second}
use Rattle.live.specs.Live.{given_to}
use Rattle.live.proofs.Theorems.{given-begins}
use Rattle.gear.specs.Sheet.{row_of}
use Rattle.prompt.specs.Prompt.{judge_begin, begun}
use Rattle.prompt.specs.Run.{Run, run_to}
use Rattle.prompt.proofs.Fate.{own, Fate, runs, ends, fate, runs_on, ends_at}
use Rattle.outcome.specs.declared.Outcome.{Outcome}
use Rattle.outcome.specs.Outcome.{outcome_of}
use Rattle.prompt_crossing.specs.declared.LiveState.{LiveState}
use Rattle.live_row.specs.Statements.{state_after, given_after, Begins, Starts}
use Rattle.live_row.proofs.Calls.{state_of, state-is, given_is}

module _ (version : ℕ) (v : VehicleSheet) (named : readable version ≡ true) (accepted : judge_vehicle v ≡ Ok tt) (trace : List ℕ) where
  abbrev sound : Sound v
  sound = accepted-sound v accepted

  start_of : (trace' : List ℕ) (k m : ℕ) → k ≤ m → Begins trace trace' k → given_to v (own version sound trace) trace k ≡ take (2 * (k - 5)) (row_of v trace' m)
  unfolding row_of
  start_of trace' k m h b =
      given-begins v (own version sound trace) (own version sound trace') trace trace' k m h
      (record {
        gears = λ i l. (λ x. (own_second (shift_of v) (b.flags i l x) (b.speeds i l x)).gear);
        flags = b.flags;
        speeds = b.speeds;
      })

  abbrev run : ℕ → Run
  run = run_to (begun version v) trace

  began : judge_begin version v ≡ Ok tt
  unfolding judge_begin
  began = rw named accepted

  state-by : (n : ℕ) {r : Run} → run n ≡ r → state_after version v trace n ≡ state_of r
  state-by n e = state-is version v began trace n ∙ ap state_of e

  given_by : (n : ℕ) {r : Run} → run n ≡ r → given_after version v trace n ≡ r.bytes
  given_by n e = given_is version v began trace n ∙ ap (λ (r : Run). r.bytes) e

  outcome-by : (n : ℕ) {r : Run} → run n ≡ r → (state_after version v trace n).outcome ≡ outcome_of r.judged
  outcome-by n e = ap (λ (s : LiveState). s.outcome) (state-by n e)

  by-fate : (n : ℕ) (r : Run) → run n ≡ r → Fate version sound trace n r → Starts version v trace n
  by-fate n r is (runs all) = record {
    taken = n;
    up_to = omega arith;
    ran = ap (λ (o : Outcome). o.number) (outcome-by n is);
    next = λ l. absurd (let z : ⊥ = omega arith in z);
    starts = λ trace' m h b. given_by n is ∙ start_of trace' n m h b;
  }
  by-fate n r is (ends k refusal l all e) =
      let outcome = outcome-by n is in record {
        taken = k;
        up_to = omega arith;
        ran = ap (λ (o : Outcome). o.number) (outcome-by k (runs_on version sound trace k all));
        next = λ l. (
          outcome-by (suc k) (ends_at version sound trace k refusal all e) ∙ sym outcome,
          λ z. false≢true (sym (number-some refusal) ∙ eq-eqb (number_of refusal) 0 (sym (ap (λ (o : Outcome). o.number) outcome) ∙ z)),
        );
        starts = λ trace' m h b. given_by n is ∙ start_of trace' k m h b;
      }

  pub starts : (n : ℕ) → Starts version v trace n
  starts n = by-fate n (run n) refl (fate version sound trace n)
