-- "The core itself refuses version 3" (02, M-112): a draft must never be driven. The theorem is that of proofs/Drafts.antt.
use Rattle.std.specs.Prelude.{◌≡◌, List, ℕ, Ok, Err}
use Rattle.refusal.specs.declared.Refusal.TheVariants.{Header}
use Rattle.trace.specs.Judging.{judge_trace, judge_pair}
use Rattle.vehicle.specs.declared.VehicleSheet.{VehicleSheet}
use Rattle.gear.specs.Sheet.{gear_answer, gear_buffer}
use Rattle.prompt.specs.Prompt.{judge_begin}

-- every function that reads a trace refuses it with 1, and the live engine does not begin with its version; a reduced trace is judged once the normal one is accepted
pub record NeverDriven (draft : List ℕ) : Type 0 where
  pub judged : judge_trace draft ≡ Err Header
  pub normal : (reduced : List ℕ) → judge_pair draft reduced ≡ Err Header
  pub reduced : (normal : List ℕ) → judge_trace normal ≡ Ok tt → judge_pair normal draft ≡ Err Header
  pub driven : (v : VehicleSheet) (room start : ℕ) → gear_answer draft v room start ≡ Err Header
  pub kept : (v : VehicleSheet) (buffer : List ℕ) (start : ℕ) → gear_buffer draft v buffer start ≡ buffer
  pub begun : (v : VehicleSheet) → judge_begin 3 v ≡ Err Header
