-- What it takes for a sheet to be answered with a result. Assumes nothing.
use mathlib.Core.Path.{◌≡◌, refl}
use mathlib.Core.Bool.{false≢true}
use Rattle.std.specs.Prelude.{Ok, Err, Result}
use Rattle.refusal.specs.Judging.{Judged}
use Rattle.refusal.specs.declared.Refusal.{Refusal}
use Rattle.bag.specs.declared.BagSheet.{BagSheet}
use Rattle.bag.specs.Sheet.{judge_sheet}
use Rattle.cutter.specs.NonMethane.{cutter_of}
use Rattle.sides.specs.declared.TestSides.{TestSides}
use Rattle.sides.specs.ReadIn.{read_in}
use Rattle.sides.proofs.Readings.{Took}
use Rattle.late.specs.Late.{judge_late}
use Rattle.emission.specs.declared.TestResult.{TestResult}
use Rattle.emission.specs.Test.{on_read, parts_in, result_of, hand_up, read_answer, test_answer}

-- a stage that hands a result up accepted, and the result is what came next
handed : {r : TestResult} (j : Judged) (next : (Result TestResult Refusal)) → hand_up j next ≡ Ok r → (j ≡ Ok tt) × (next ≡ Ok r)
handed (Ok _) next e = (refl, e)
handed (Err refusal) next e = absurd (false≢true (cc))

took-test : {r : TestResult} (x : (Result TestSides Refusal)) (next : TestSides → (Result TestResult Refusal)) → on_read x next ≡ Ok r → Took Ok x next (Ok r)
took-test (Ok readings) next e = record { held = readings; taken = refl; then = e }
took-test (Err refusal) next e = absurd (false≢true (cc))

-- the sheet was accepted, the readings were read, and dilution, humidity and the cutter accepted
pub record AcceptedResult (s : BagSheet) (r : TestResult) : Type 0 where
  pub sheet : judge_sheet s ≡ Ok tt
  pub readings : TestSides
  pub read : read_in s ≡ Ok readings
  pub late : judge_late s (cutter_of s) readings ≡ Ok tt
  pub result : r ≡ result_of s (cutter_of s).fitted (parts_in s (cutter_of s) readings)

pub accepted-result : {s : BagSheet} {r : TestResult} → test_answer s ≡ Ok r → AcceptedResult s r
unfolding test_answer read_answer
accepted-result {s} {r} e =
    let outer = handed (judge_sheet s) (on_read (read_in s) (read_answer s)) e in
    let t = took-test (read_in s) (read_answer s) outer.1 in
    let c = cutter_of s in
    let inner = handed (judge_late s c t.held) (Ok (result_of s c.fitted (parts_in s c t.held))) t.then in
    let same = inner.1 in
    record { sheet = outer.0; readings = t.held; read = t.taken; late = inner.0; result = cc }
