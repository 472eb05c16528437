-- What is promised of prompting the rider live (02, M-110), beside the row of the gear sheet. The theorems are those of proofs/Whole.antt, Starts.antt, Calls.antt and OneFault.antt. Seconds count from 0 here.
use Rattle.std.specs.Prelude.{◌≡◌, true, List, [], ◌++◌, ℕ, zero, suc, ◌+◌, ◌-◌, ◌*◌, ◌≤◌, ◌<◌, length, take, Ok, Err}
use Rattle.refusal.specs.declared.Refusal.{Refusal}
use Rattle.refusal.specs.Judging.{Judged}
use Rattle.house.specs.House.{headed, version_of, count_of, speed_at, flags_at}
use Rattle.trace.specs.Judging.{countable}
use Rattle.vehicle.specs.declared.VehicleSheet.{VehicleSheet}
use Rattle.vehicle.specs.Sheet.{judge_vehicle}
use Rattle.shift.specs.Speeds.{shift_of}
use Rattle.tenths.specs.Least.{tenths_of}
use Rattle.live.specs.Live.{fresh}
use Rattle.gear.specs.Sheet.{judge_room, gear_answer, row_of}
use Rattle.prompt.specs.declared.Engine.{Engine}
use Rattle.prompt.specs.Prompt.{judge_second}
use Rattle.prompt.specs.Run.{received_at, bytes_of}
use Rattle.outcome.specs.Outcome.{outcome_of}
use Rattle.prompt_crossing.specs.declared.LiveState.{LiveState}
use Rattle.prompt_crossing.specs.State.{begin_out, second_out, end_out}

-- ---- the calls of a bench: the start, the seconds of a trace one after the other, and the end
unfoldable pub state_after : ℕ → VehicleSheet → List ℕ → ℕ → LiveState
state_after version v trace zero = begin_out version v
state_after version v trace (suc n) = (second_out (state_after version v trace n) (received_at trace n)).state

-- all that the calls of the first n seconds have given
unfoldable pub given_after : ℕ → VehicleSheet → List ℕ → ℕ → List ℕ
given_after version v trace zero = []
given_after version v trace (suc n) = given_after version v trace n ++ bytes_of (second_out (state_after version v trace n) (received_at trace n)).given

-- and the end
abbrev pub row_after : ℕ → VehicleSheet → List ℕ → ℕ → List ℕ
row_after version v trace n = given_after version v trace n ++ bytes_of (end_out (state_after version v trace n)).given

-- ---- "For every trace and vehicle its row equals the present one"
pub record WholeRow (trace : List ℕ) (v : VehicleSheet) : Type 0 where
  pub accepted : (end_out (state_after (version_of trace) v trace (count_of trace))).outcome.number ≡ 0
  pub row : row_after (version_of trace) v trace (count_of trace) ≡ row_of v trace (count_of trace)

-- ---- a trace that begins with the same seconds
pub record Begins (trace trace' : List ℕ) (k : ℕ) : Type 0 where
  pub flags : (i : ℕ) → i < k → flags_at trace i ≡ flags_at trace' i
  pub speeds : (i : ℕ) → i < k → speed_at trace i ≡ speed_at trace' i

-- ---- what n calls have come to: so many seconds were taken, all n or those before the refused one, and what was given is all but the last five of them, as in the row of
-- "every accepted trace that begins with the seconds received before the refused one"
pub record Starts (version : ℕ) (v : VehicleSheet) (trace : List ℕ) (n : ℕ) : Type 0 where
  pub taken : ℕ
  pub up_to : taken ≤ n
  -- those seconds were taken, and the next, if there was one, was refused with what the state says from then on
  pub ran : (state_after version v trace taken).outcome.number ≡ 0
  pub next : taken < n → ((state_after version v trace (suc taken)).outcome ≡ (state_after version v trace n).outcome) × ((state_after version v trace n).outcome.number ≡ 0 → ⊥)
  pub starts : (trace' : List ℕ) (m : ℕ) → taken ≤ m → Begins trace trace' taken → given_after version v trace n ≡ take (2 * (taken - 5)) (row_of v trace' m)

-- ---- a start that is refused: every call answers it again, and nothing is given
pub record Never (version : ℕ) (v : VehicleSheet) (trace : List ℕ) (n : ℕ) : Type 0 where
  pub stays : state_after version v trace n ≡ begin_out version v
  pub nothing : row_after version v trace n ≡ []

-- ---- the two engines' refusals
-- an engine that has received k seconds, whatever they were
abbrev pub begun_at : List ℕ → VehicleSheet → ℕ → Engine
begun_at trace v k = record {
  version = version_of trace;
  v = v;
  tenths = tenths_of (shift_of v);
  live = record {
    received = k;
    former = fresh.former;
    pending = fresh.pending;
    stops = fresh.stops;
    gears = fresh.gears;
    flags = fresh.flags;
    speeds = fresh.speeds;
  };
}

-- what it says of second k
abbrev pub said_alone : List ℕ → VehicleSheet → ℕ → Judged
said_alone trace v k = judge_second (begun_at trace v k) (received_at trace k)

-- A trace whose only fault is second k: both engines refuse it with the same number and place. Where several seconds are faulty they may name different ones: the gear sheet judges 4 of all
-- seconds, then 20 of all, then 9, and the live engine one second after the other
pub record OneFault (trace : List ℕ) (v : VehicleSheet) (room start k : ℕ) (refusal : Refusal) : Type 0 where
  pub headed : headed trace ≡ true
  pub counted : countable (count_of trace) ≡ true
  pub long : length trace ≡ 8 + 4 * count_of trace
  pub taken : judge_vehicle v ≡ Ok tt
  pub fits : judge_room (count_of trace) room start ≡ Ok tt
  pub within : k < count_of trace
  pub fault : said_alone trace v k ≡ Err refusal
  pub others : (i : ℕ) → i < count_of trace → (i ≡ k → ⊥) → said_alone trace v i ≡ Ok tt

pub record SameRefusal (trace : List ℕ) (v : VehicleSheet) (room start : ℕ) (refusal : Refusal) : Type 0 where
  pub present : gear_answer trace v room start ≡ Err refusal
  pub live : (state_after (version_of trace) v trace (count_of trace)).outcome ≡ outcome_of (Err refusal)
