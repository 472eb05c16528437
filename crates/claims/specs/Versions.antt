-- What is promised of the versions of a trace (02, M-109) beyond their definitions. The theorems are those of proofs/Versions.antt.
use Rattle.std.specs.Prelude.{◌≡◌, List, ℕ, ◌<◌, Ok}
use Rattle.house.specs.House.{version_of, count_of, speed_at, flags_at}
use Rattle.trace.specs.Judging.{judge_trace}
use Rattle.trace.specs.Versions.{in_version2}
use Rattle.vehicle.specs.declared.VehicleSheet.{VehicleSheet}
use Rattle.row.specs.declared.Rule.TheVariants.{NoFirst, NoShift, NoDrop, OneStep}
use Rattle.row.specs.Corrections.{cap_runs, pass_by}
use Rattle.runs.specs.Runs.{smoothed}
use Rattle.runs.specs.Corrected.{corrected}
use Rattle.gear.specs.Sheet.{gear_answer, gear_buffer}
use Rattle.writer.specs.Writer.{speed_in, phase_in, count_in, written}

-- ---- "corrections 2 and 3 then have nothing to act on": on every row both passes leave it as it is, so that its corrections are 1, 4, 5 and 6
pub record Idle (trace : List ℕ) : Type 0 where
  pub second : (row : List ℕ) → pass_by NoFirst trace row (count_of trace) ≡ row
  pub third : (row : List ℕ) → pass_by NoShift trace row (count_of trace) ≡ row
  pub others : (row : List ℕ) → let n = count_of trace in
      corrected trace row n ≡ smoothed trace (pass_by OneStep trace (pass_by NoDrop trace (cap_runs trace row n) n) n) n

-- ---- the same answer and the same buffer, for every vehicle, under either rule set
pub record SameSheet (trace : List ℕ) : Type 0 where
  pub answer : (v : VehicleSheet) (room start : ℕ) → gear_answer (in_version2 trace) v room start ≡ gear_answer trace v room start
  pub buffer : (v : VehicleSheet) (buffer : List ℕ) (start : ℕ) → gear_buffer (in_version2 trace) v buffer start ≡ gear_buffer trace v buffer start

-- ---- "reading what it wrote gives the same seconds", and what it wrote is accepted
pub record ReadBack (seconds : List ℕ) : Type 0 where
  pub accepted : judge_trace (written seconds) ≡ Ok tt
  pub version : version_of (written seconds) ≡ 2
  pub count : count_of (written seconds) ≡ count_in seconds
  pub speeds : (k : ℕ) → k < count_in seconds → speed_at (written seconds) k ≡ speed_in seconds k
  pub phases : (k : ℕ) → k < count_in seconds → flags_at (written seconds) k ≡ phase_in seconds k
