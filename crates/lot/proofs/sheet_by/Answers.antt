-- What is asked of every gas is asked of each.
use borrow.Author.Rules.{rules}
use Rattle.refusal.specs.declared.Gas.TheVariants.{HC, CO, NOx, CO2, NMHC}
use Rattle.lot.proofs.sheet_by.Goals as goal

pub gas_sheet_by-requires : goal.gas_sheet_by-requires
gas_sheet_by-requires c =
    let hc = c.requires HC in
    let co = c.requires CO in
    let nox = c.requires NOx in
    let co2 = c.requires CO2 in
    let nmhc = c.requires NMHC in
    search rules

pub gas_sheet_by-requires-2 : goal.gas_sheet_by-requires-2
gas_sheet_by-requires-2 c =
    let hc = c.requires HC in
    let co = c.requires CO in
    let nox = c.requires NOx in
    let co2 = c.requires CO2 in
    let nmhc = c.requires NMHC in
    search rules

pub gas_sheet_by-requires-3 : goal.gas_sheet_by-requires-3
gas_sheet_by-requires-3 c =
    let hc = c.requires HC in
    let co = c.requires CO in
    let nox = c.requires NOx in
    let co2 = c.requires CO2 in
    let nmhc = c.requires NMHC in
    search rules

pub gas_sheet_by-requires-4 : goal.gas_sheet_by-requires-4
gas_sheet_by-requires-4 c =
    let hc = c.requires HC in
    let co = c.requires CO in
    let nox = c.requires NOx in
    let co2 = c.requires CO2 in
    let nmhc = c.requires NMHC in
    search rules

pub gas_sheet_by-requires-5 : goal.gas_sheet_by-requires-5
gas_sheet_by-requires-5 c =
    let hc = c.requires HC in
    let co = c.requires CO in
    let nox = c.requires NOx in
    let co2 = c.requires CO2 in
    let nmhc = c.requires NMHC in
    search rules
