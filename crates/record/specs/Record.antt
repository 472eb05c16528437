-- The result record (02, M-105 and M-108): the weighted ends of each gas, its verdict as a number, and whether the test has the fifth.
use Rattle.std.specs.Prelude.{Bool, not, cond, ◌||◌, ℕ, eqb, None, Option, Some}
use Rattle.refusal.specs.declared.Gas.{Gas}
use Rattle.refusal.specs.declared.Gas.TheVariants.{HC, CO, NOx, CO2, NMHC}
use Rattle.bag.specs.Gas.{is_nmhc, among}
use Rattle.weigh.specs.declared.Verdict.{Verdict}
use Rattle.weigh.specs.declared.Verdict.TheVariants.{Pass, Fail, Undecided}
use Rattle.emission.specs.declared.Verdicts.{Verdicts}
use Rattle.emission.specs.declared.TestResult.{TestResult}
use Rattle.emission.specs.Test.{verdict_at}
use Rattle.record.specs.declared.VerdictNumbers.{VerdictNumbers}
use Rattle.record.specs.declared.Record.{Record}

-- 0 is no verdict: it stands beside a refusal, and for a gas that the test does not have
abbrev pub verdict_number : Option Verdict → ℕ
verdict_number (Some Pass) = 1
verdict_number (Some Fail) = 2
verdict_number (Some Undecided) = 3
verdict_number None = 0

-- the number of a gas, and numbers for each
abbrev pub number_at : Gas → VerdictNumbers → ℕ
number_at gas v = among gas v.hc v.co v.nox v.co2 v.nmhc

unfoldable pub each_number : (Gas → ℕ) → VerdictNumbers
each_number f = record { hc = f HC; co = f CO; nox = f NOx; co2 = f CO2; nmhc = f NMHC }

unfoldable pub verdict_numbers : Verdicts → VerdictNumbers
verdict_numbers v = each_number (λ gas. verdict_number (verdict_at gas v))

abbrev pub flag_of : Bool → ℕ
flag_of has_nmhc = cond has_nmhc 1 0

abbrev pub record_of : TestResult → Record
record_of result = record { weighted = result.weighted; verdicts = verdict_numbers result.verdicts; has_nmhc = flag_of result.has_nmhc }

-- whether a record has a gas: every one has the first four. Every number but 0 says that it has the fifth
abbrev pub has_gas : Gas → Record → Bool
has_gas gas r = not (is_nmhc gas) || not (eqb r.has_nmhc 0)
