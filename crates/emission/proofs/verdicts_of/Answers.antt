-- What is asked of every gas is asked of each.
use borrow.Author.Rules.{rules}
use Rattle.refusal.specs.declared.Gas.TheVariants.{HC, CO, NOx, CO2, NMHC}
use Rattle.emission.proofs.verdicts_of.Goals as goal

pub verdict_of-requires : goal.verdict_of-requires
verdict_of-requires c =
    let hc = c.requires HC in
    let co = c.requires CO in
    let nox = c.requires NOx in
    let co2 = c.requires CO2 in
    let nmhc = c.requires NMHC in
    search rules

pub verdict_of-requires-2 : goal.verdict_of-requires-2
verdict_of-requires-2 c =
    let hc = c.requires HC in
    let co = c.requires CO in
    let nox = c.requires NOx in
    let co2 = c.requires CO2 in
    let nmhc = c.requires NMHC in
    search rules

pub verdict_of-requires-3 : goal.verdict_of-requires-3
verdict_of-requires-3 c =
    let hc = c.requires HC in
    let co = c.requires CO in
    let nox = c.requires NOx in
    let co2 = c.requires CO2 in
    let nmhc = c.requires NMHC in
    search rules

pub verdict_of-requires-4 : goal.verdict_of-requires-4
verdict_of-requires-4 c =
    let hc = c.requires HC in
    let co = c.requires CO in
    let nox = c.requires NOx in
    let co2 = c.requires CO2 in
    let nmhc = c.requires NMHC in
    search rules

pub nmhc_verdict-requires : goal.nmhc_verdict-requires
nmhc_verdict-requires c =
    let hc = c.requires HC in
    let co = c.requires CO in
    let nox = c.requires NOx in
    let co2 = c.requires CO2 in
    let nmhc = c.requires NMHC in
    search rules
