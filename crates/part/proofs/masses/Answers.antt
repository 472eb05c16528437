-- What is asked of every gas is asked of each.
use borrow.Author.Rules.{rules}
use Rattle.refusal.specs.declared.Gas.TheVariants.{HC, CO, NOx, CO2, NMHC}
use Rattle.part.proofs.masses.Goals as goal

pub gas_mass-requires : goal.gas_mass-requires
gas_mass-requires c =
    let hc = c.requires HC in
    let co = c.requires CO in
    let nox = c.requires NOx in
    let co2 = c.requires CO2 in
    let nmhc = c.requires NMHC in
    record {
      volume_size = search rules;
      ranges = record { bag_size = search rules; air_size = search rules; g_range = search rules; good = search rules; q_most = search rules };
      density_most = search rules;
    }

pub gas_mass-requires-2 : goal.gas_mass-requires-2
gas_mass-requires-2 c =
    let hc = c.requires HC in
    let co = c.requires CO in
    let nox = c.requires NOx in
    let co2 = c.requires CO2 in
    let nmhc = c.requires NMHC in
    record {
      volume_size = search rules;
      ranges = record { bag_size = search rules; air_size = search rules; g_range = search rules; good = search rules; q_most = search rules };
      density_most = search rules;
    }

pub gas_mass-requires-3 : goal.gas_mass-requires-3
gas_mass-requires-3 c =
    let hc = c.requires HC in
    let co = c.requires CO in
    let nox = c.requires NOx in
    let co2 = c.requires CO2 in
    let nmhc = c.requires NMHC in
    record {
      volume_size = search rules;
      ranges = record { bag_size = search rules; air_size = search rules; g_range = search rules; good = search rules; q_most = search rules };
      density_most = search rules;
    }

pub gas_mass-requires-4 : goal.gas_mass-requires-4
gas_mass-requires-4 c =
    let hc = c.requires HC in
    let co = c.requires CO in
    let nox = c.requires NOx in
    let co2 = c.requires CO2 in
    let nmhc = c.requires NMHC in
    record {
      volume_size = search rules;
      ranges = record { bag_size = search rules; air_size = search rules; g_range = search rules; good = search rules; q_most = search rules };
      density_most = search rules;
    }

pub gas_mass-requires-5 : goal.gas_mass-requires-5
gas_mass-requires-5 c =
    let hc = c.requires HC in
    let co = c.requires CO in
    let nox = c.requires NOx in
    let co2 = c.requires CO2 in
    let nmhc = c.requires NMHC in
    record {
      volume_size = search rules;
      ranges = record { bag_size = search rules; air_size = search rules; g_range = search rules; good = search rules; q_most = search rules };
      density_most = search rules;
    }
