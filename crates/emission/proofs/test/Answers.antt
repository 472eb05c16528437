-- Past the last refusal the sheet's ranges hold.
use mathlib.Core.Path.{sym}
use Rattle.bag.proofs.Sound.{accepted-sound}
use Rattle.late.proofs.Late.{late-ranges, parts-ranges}
use Rattle.emission.proofs.Ranges.{result-ranges}
use Rattle.emission.proofs.test.Goals as goal

pub judge-requires-2 : goal.judge-requires-2
judge-requires-2 c = rw c.cutter_of-c.ensures (late-ranges (accepted-sound _ (sym c.in_ok-judge.ensures)) (sym c.in_ok-readings.ensures))

pub parts_in-requires : goal.parts_in-requires
parts_in-requires c =
    let late = rw c.cutter_of-c.ensures at c.in_ok-judge-2.ensures in
    rw c.cutter_of-c.ensures (parts-ranges (accepted-sound _ (sym c.in_ok-judge.ensures)) (sym c.in_ok-readings.ensures) (sym late))

pub result_of-requires : goal.result_of-requires
result_of-requires c =
    let late = rw c.cutter_of-c.ensures at c.in_ok-judge-2.ensures in
    let sound = accepted-sound _ (sym c.in_ok-judge.ensures) in
    rw (c.parts_in.ensures, c.cutter_of-c.ensures) (result-ranges sound.tested (parts-ranges sound (sym c.in_ok-readings.ensures) (sym late)))
