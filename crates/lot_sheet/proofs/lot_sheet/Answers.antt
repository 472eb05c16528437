-- What is kept of the records that are read, turn by turn.
use mathlib.Core.Path.{◌≡◌, refl, ◌∙◌}
use native.Mathlib.Omega.{arith}
use lib.ListN.{length}
use Rattle.lot_sheet.proofs.Turns.{kept-none, kept-before, kept-room, kept_less, read-bounds, answer-is}
use Rattle.lot_sheet.proofs.lot_sheet.Goals as goal

pub loop-i-init : goal.loop-i-init
loop-i-init c = rw (c.records_read-read.ensures, c.no_records-running.ensures) (kept-none c.args.records.now)

pub joined-running-requires : goal.joined-running-requires
joined-running-requires c =
    let b = read-bounds (length c.args.records.now) in
    (omega (arith, c.records_read-read.ensures), rw c.loop-i.invariant (kept_less c.args.records.now c.loop-i.i (omega arith)))

pub loop-i-preserved : goal.loop-i-preserved
loop-i-preserved c =
    rw c.loop-i.invariant at c.joined-running.ensures
    ∙ kept-before c.args.records.now c.loop-i.i (omega arith) (omega (arith, c.records_read-read.ensures))

pub finished-requires : goal.finished-requires
finished-requires c = rw c.loop-i.invariant (kept-room c.args.records.now c.loop-i.i)

pub returns : goal.returns
returns c =
    let zero : c.loop-i.i ≡ 0 = omega arith in
    (simp (c.finished.ensures, c.loop-i.invariant, zero) (answer-is c.args.records.now), refl)
