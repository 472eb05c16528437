-- What G asks of three gases, each at its place among the readings.
use borrow.Author.Rules.{rules}
use Rattle.refusal.specs.declared.Gas.TheVariants.{HC, CO, CO2, NMHC}
use Rattle.part.proofs.g_in.Goals as goal

pub g_of-requires : goal.g_of-requires
g_of-requires c =
    let t = c.requires.0 in
    let b = c.requires.1 in
    let hc = b HC in
    let co = b CO in
    let co2 = b CO2 in
    let nmhc = b NMHC in
    let wc = t.wc.1 in
    let wh = t.wh.1 in
    record { co2_reading = search rules; co_reading = search rules; hc_reading = search rules; wc_most = search rules; wh_most = search rules }
