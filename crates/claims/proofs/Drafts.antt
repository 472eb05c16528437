-- A draft is never driven: every function that reads a trace refuses version 3. Assumes nothing.
use mathlib.Core.Path.{◌≡◌, refl, ap}
use mathlib.Core.List.{List}
use Prim.Native.Nat.{ℕ}
use lib.ListN.{length}
use Rattle.refusal.specs.declared.Refusal.TheVariants.{Header}
use Rattle.std.specs.Prelude.{Ok, Err}
use Rattle.house.specs.House.{version_of, readable}
use Rattle.trace.specs.Judging.{judge_trace, judge_pair}
use Rattle.trace.proofs.Sound.{unreadable}
use Rattle.vehicle.specs.declared.VehicleSheet.{VehicleSheet}
use Rattle.gear.specs.Sheet.{judge_sheet, gear_answer, gear_buffer}
use Rattle.prompt.specs.Prompt.{judge_begin}
use Rattle.claims.specs.Drafts.{NeverDriven}

module _ (draft : List ℕ) (is : version_of draft ≡ 3) where
  refused : judge_trace draft ≡ Err Header
  refused = unreadable draft (ap readable is)

  pair-normal : (reduced : List ℕ) → judge_pair draft reduced ≡ Err Header
  unfolding judge_pair
  pair-normal reduced = rw refused

  pair-reduced : (normal : List ℕ) → judge_trace normal ≡ Ok tt → judge_pair normal draft ≡ Err Header
  unfolding judge_pair
  pair-reduced normal e = rw (e, refused)

  not-driven : (v : VehicleSheet) (room start : ℕ) → gear_answer draft v room start ≡ Err Header
  unfolding gear_answer judge_sheet
  not-driven v room start = rw refused

  buffer-kept : (v : VehicleSheet) (buffer : List ℕ) (start : ℕ) → gear_buffer draft v buffer start ≡ buffer
  unfolding gear_buffer
  buffer-kept v buffer start = rw (not-driven v (length buffer) start)

  not-begun : (v : VehicleSheet) → judge_begin 3 v ≡ Err Header
  unfolding judge_begin
  not-begun v = refl

  pub never-driven : NeverDriven draft
  never-driven = record { judged = refused; normal = pair-normal; reduced = pair-reduced; driven = not-driven; kept = buffer-kept; begun = not-begun }
