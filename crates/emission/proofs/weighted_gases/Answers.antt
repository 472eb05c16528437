-- What is asked of every gas is asked of each.
use borrow.Author.Rules.{rules}
use Rattle.refusal.specs.declared.Gas.TheVariants.{HC, CO, NOx, CO2, NMHC}
use Rattle.emission.proofs.weighted_gases.Goals as goal

pub weighted-requires : goal.weighted-requires
weighted-requires c =
    let hc = c.requires HC in
    let co = c.requires CO in
    let nox = c.requires NOx in
    let co2 = c.requires CO2 in
    let nmhc = c.requires NMHC in
    record { whole = search rules; first_size = search rules; second_size = search rules; third_size = search rules }

pub weighted-requires-2 : goal.weighted-requires-2
weighted-requires-2 c =
    let hc = c.requires HC in
    let co = c.requires CO in
    let nox = c.requires NOx in
    let co2 = c.requires CO2 in
    let nmhc = c.requires NMHC in
    record { whole = search rules; first_size = search rules; second_size = search rules; third_size = search rules }

pub weighted-requires-3 : goal.weighted-requires-3
weighted-requires-3 c =
    let hc = c.requires HC in
    let co = c.requires CO in
    let nox = c.requires NOx in
    let co2 = c.requires CO2 in
    let nmhc = c.requires NMHC in
    record { whole = search rules; first_size = search rules; second_size = search rules; third_size = search rules }

pub weighted-requires-4 : goal.weighted-requires-4
weighted-requires-4 c =
    let hc = c.requires HC in
    let co = c.requires CO in
    let nox = c.requires NOx in
    let co2 = c.requires CO2 in
    let nmhc = c.requires NMHC in
    record { whole = search rules; first_size = search rules; second_size = search rules; third_size = search rules }

pub weighted-requires-5 : goal.weighted-requires-5
weighted-requires-5 c =
    let hc = c.requires HC in
    let co = c.requires CO in
    let nox = c.requires NOx in
    let co2 = c.requires CO2 in
    let nmhc = c.requires NMHC in
    record { whole = search rules; first_size = search rules; second_size = search rules; third_size = search rules }
