-- The bag sheet and the result of a test as they cross the boundary: in numbers alone.
use Rattle.std.specs.Prelude.{cond, eqb, pos, Ok, Err, Result}
use Rattle.std.specs.Float.Ieee.{of_bits}
use Rattle.std.specs.Float.{binary32}
use Rattle.arith.specs.Stages.{exactly}
use Rattle.refusal.specs.declared.Refusal.{Refusal}
use Rattle.reading.specs.declared.Message.{Message}
use Rattle.reading.specs.declared.Message.TheVariants.{Ppm, Percent, OverRange, NotFitted}
use Rattle.reading.specs.declared.Bag.{Bag}
use Rattle.bag.specs.declared.Part.{Part}
use Rattle.bag.specs.declared.BagSheet.{BagSheet}
use Rattle.sides.specs.Gases.{nothing}
use Rattle.emission.specs.declared.TestResult.{TestResult}
use Rattle.emission.specs.Test.{no_part}
use Rattle.record.specs.Record.{record_of}
use Rattle.outcome.specs.declared.Outcome.{Outcome}
use Rattle.crossing.specs.declared.MessageNumbers.{MessageNumbers}
use Rattle.crossing.specs.declared.BagNumbers.{BagNumbers}
use Rattle.crossing.specs.declared.SheetPart.{SheetPart}
use Rattle.crossing.specs.declared.Sheet.{Sheet}
use Rattle.crossing.specs.declared.TestOutcome.{TestOutcome}
use Rattle.outcome.specs.Outcome.{outcome_of}

-- ---- in
-- 0 ppm, 1 percent, 3 not fitted; 2 is over range, and so is a kind that is none of the four: it brings no reading, and is no word that the cutter is missing
abbrev pub message_of : MessageNumbers → Message
message_of r =
    cond (eqb r.kind 0) (Ppm (of_bits binary32 r.bits))
    (cond (eqb r.kind 1) (Percent (of_bits binary32 r.bits)) (cond (eqb r.kind 3) NotFitted OverRange))

unfoldable pub bag_of : BagNumbers → Bag
bag_of r = record { hc = message_of r.hc; co = message_of r.co; nox = message_of r.nox; co2 = message_of r.co2; cutter = message_of r.cutter }

unfoldable pub sheet_part_of : SheetPart → Part
sheet_part_of p =
    record {
      pump = p.pump;
      revolutions = p.revolutions;
      barometer = p.barometer;
      depression = p.depression;
      temperature = p.temperature;
      humidity = p.humidity;
      saturation = p.saturation;
      distance = p.distance;
      density = p.density;
      bag = bag_of p.bag;
      air = bag_of p.air;
    }

unfoldable pub sheet_of : Sheet → BagSheet
sheet_of s =
    record {
      class = s.class;
      parts = s.parts;
      triple = s.triple;
      fuel = s.fuel;
      limits = s.limits;
      efficiencies = s.efficiencies;
      first = sheet_part_of s.first;
      second = sheet_part_of s.second;
      third = sheet_part_of s.third;
    }

-- ---- out
-- beside a refusal all figures are 0, and there is no verdict
unfoldable pub with_nothing : Outcome → TestOutcome
with_nothing outcome =
    record {
      outcome = outcome;
      parts = record { first = no_part; second = no_part; third = no_part };
      weighted = nothing;
      verdicts = record { hc = 0; co = 0; nox = 0; co2 = 0; nmhc = 0 };
      has_nmhc = 0;
      fuel = exactly (pos 0);
    }

-- weighted, verdicts and the fifth gas's flag are those of the result record, which a lot reads
abbrev pub result_out : Result TestResult Refusal → TestOutcome
result_out (Ok result) =
    record {
      outcome = outcome_of (Ok tt);
      parts = result.parts;
      weighted = (record_of result).weighted;
      verdicts = (record_of result).verdicts;
      has_nmhc = (record_of result).has_nmhc;
      fuel = result.fuel;
    }
result_out (Err refusal) = with_nothing (outcome_of (Err refusal))
