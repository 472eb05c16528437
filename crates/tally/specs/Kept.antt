-- What the code keeps of one gas over some entries, what one entry more makes of it, and what it comes to.
use Rattle.std.specs.Prelude.{cond, List, [], ◌+◌, ◌-◌, eqb, length, pos, None, Option, Some}
use Rattle.std.specs.Int.Signed.{le_z}
use Rattle.arith.specs.Stages.{sum_of, divided_by, larger}
use Rattle.tally.specs.declared.Mean.{Mean}
use Rattle.tally.specs.declared.GasSheet.{GasSheet}
use Rattle.tally.specs.declared.Tally.{Tally}
use Rattle.tally.specs.Entries.{Entry, passes, fails, plus_if, how_many, sum_over, greatest_of, worst_of}

unfoldable pub tally_of : List Entry → Tally
tally_of es =
    record {
      count = length es;
      passed = how_many passes es;
      failed = how_many fails es;
      worst = worst_of es;
      greatest = greatest_of es;
      sum = sum_over es;
    }

unfoldable pub no_tally : Tally
no_tally = tally_of []

-- one entry more, before the others
unfoldable pub added_to : Entry → Tally → Tally
added_to e t =
    record {
      count = t.count + 1;
      passed = plus_if (passes e) t.passed;
      failed = plus_if (fails e) t.failed;
      worst = cond (le_z t.greatest e.ends.upper) e.at t.worst;
      greatest = larger t.greatest e.ends.upper;
      sum = sum_of e.ends t.sum;
    }

unfoldable pub mean_by : Tally → Option Mean
mean_by t = cond (eqb t.count 0) None (Some (record { ends = divided_by t.sum (pos t.count); worst = t.worst }))

unfoldable pub gas_sheet_by : Tally → GasSheet
gas_sheet_by t = record { passed = t.passed; failed = t.failed; undecided = t.count - (t.passed + t.failed); sum = t.sum; mean = mean_by t }
