-- What is asked of every gas is asked of each.
use borrow.Author.Rules.{rules}
use Rattle.refusal.specs.declared.Gas.TheVariants.{HC, CO, NOx, CO2, NMHC}
use Rattle.part.proofs.rates.Goals as goal

pub rate-requires : goal.rate-requires
rate-requires c =
    let hc = c.requires HC in
    let co = c.requires CO in
    let nox = c.requires NOx in
    let co2 = c.requires CO2 in
    let nmhc = c.requires NMHC in
    record { mass_size = search rules; distance_least = search rules }

pub rate-requires-2 : goal.rate-requires-2
rate-requires-2 c =
    let hc = c.requires HC in
    let co = c.requires CO in
    let nox = c.requires NOx in
    let co2 = c.requires CO2 in
    let nmhc = c.requires NMHC in
    record { mass_size = search rules; distance_least = search rules }

pub rate-requires-3 : goal.rate-requires-3
rate-requires-3 c =
    let hc = c.requires HC in
    let co = c.requires CO in
    let nox = c.requires NOx in
    let co2 = c.requires CO2 in
    let nmhc = c.requires NMHC in
    record { mass_size = search rules; distance_least = search rules }

pub rate-requires-4 : goal.rate-requires-4
rate-requires-4 c =
    let hc = c.requires HC in
    let co = c.requires CO in
    let nox = c.requires NOx in
    let co2 = c.requires CO2 in
    let nmhc = c.requires NMHC in
    record { mass_size = search rules; distance_least = search rules }

pub rate-requires-5 : goal.rate-requires-5
rate-requires-5 c =
    let hc = c.requires HC in
    let co = c.requires CO in
    let nox = c.requires NOx in
    let co2 = c.requires CO2 in
    let nmhc = c.requires NMHC in
    record { mass_size = search rules; distance_least = search rules }
