-- The fifth gas asks what the ranges of a part say of the readings.
use borrow.Author.Rules.{rules}
use Rattle.refusal.specs.declared.Gas.TheVariants.{HC, CO, NMHC}
use Rattle.part.proofs.with_nmhc.Goals as goal

pub nmhc-nmhc-requires : goal.nmhc-nmhc-requires
nmhc-nmhc-requires c =
    let r = c.requires in
    let hc = r.sizes HC in
    let co = r.sizes CO in
    let nmhc = r.sizes NMHC in
    record { ranged = r.ranged; good = r.good; hc_reading = search rules; behind_reading = search rules }
