-- Where all are called, the row of the gears that were put is that of the sheet.
use Rattle.std.proofs.Common.{◌∙◌, sym, ap, List, ℕ, ◌++◌, ◌*◌, drop, get_or}
use Rattle.shift.specs.Speeds.{shift_of}
use Rattle.own.proofs.ByTenths.{called-gears}
use Rattle.gear.specs.Sheet.{row_from}
use Rattle.gear.proofs.Rows.{row-of-own}
use Rattle.gear.proofs.fill.Goals as goal

pub returns : goal.returns
returns c =
    let a = c.args in
    let close = c.in_ok-own_gears.ensures in
    let row =
    ap (λ (l : List ℕ). row_from a.v.sheet (λ k. get_or l k 0) a.trace.bytes.now a.trace.seconds) (close.1 ∙ called-gears (shift_of a.v.sheet) a.trace.bytes.now _ a.trace.seconds (sym close.0))
    ∙ row-of-own a.v.sheet a.trace.bytes.now _ a.trace.seconds c.requires.0.few in
    (close.0, c.into_part.ensures ∙ ap (λ (l : List ℕ). l ++ drop (2 * a.trace.seconds) a.part.now) row)
