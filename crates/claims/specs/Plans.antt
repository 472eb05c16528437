-- What is promised of a plan: "the answer and the part of each vehicle are exactly" what the gear sheet gives "that vehicle by itself; nothing else of the buffers changes". The theorems are
-- `by_itself` and `untouched` of proofs/Plans.antt, for every call with judge_plan .. ≡ Accepted, which is what the contract of `plan` says of its answer. Vehicles count from 0 here.
use Rattle.std.specs.Prelude.{◌≡◌, List, ℕ, ◌+◌, ◌*◌, ◌≤◌, length, get_or, take, drop}
use Rattle.gear.specs.Sheet.{gear_answer, gear_buffer}
use Rattle.outcome.specs.Outcome.{outcome_of}
use Rattle.plan.specs.Plan.{sheet_at, vehicles_in, row_bytes, plan_answers, plan_rows}

-- the part of vehicle i
abbrev pub part_of : List ℕ → ℕ → List ℕ → List ℕ
part_of trace i rows = take (row_bytes trace) (drop (row_bytes trace * i) rows)

-- the gear sheet of vehicle i, over its part alone, from its first byte on
pub record ByItself (trace sheets rows answers : List ℕ) (i : ℕ) : Type 0 where
  pub number : get_or (plan_answers trace sheets rows answers) (2 * i) 0 ≡ (outcome_of (gear_answer trace (sheet_at sheets i) (row_bytes trace) 0)).number
  pub place : get_or (plan_answers trace sheets rows answers) (2 * i + 1) 0 ≡ (outcome_of (gear_answer trace (sheet_at sheets i) (row_bytes trace) 0)).at
  pub row : part_of trace i (plan_rows trace sheets rows answers) ≡ gear_buffer trace (sheet_at sheets i) (part_of trace i rows) 0

-- what is behind the last vehicle
pub record Untouched (trace sheets rows answers : List ℕ) : Type 0 where
  pub rows_long : length (plan_rows trace sheets rows answers) ≡ length rows
  pub rows_rest : drop (row_bytes trace * vehicles_in (length sheets)) (plan_rows trace sheets rows answers) ≡ drop (row_bytes trace * vehicles_in (length sheets)) rows
  pub answers_long : length (plan_answers trace sheets rows answers) ≡ length answers
  pub answers_rest : (k : ℕ) → 2 * vehicles_in (length sheets) ≤ k → get_or (plan_answers trace sheets rows answers) k 0 ≡ get_or answers k 0
