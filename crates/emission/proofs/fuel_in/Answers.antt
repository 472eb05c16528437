-- What the fuel asks of the sheet and of three gases, each at its place.
use borrow.Author.Rules.{rules}
use Rattle.refusal.specs.declared.Gas.TheVariants.{HC, CO, CO2, NMHC}
use Rattle.emission.proofs.fuel_in.Goals as goal

pub fuel-requires : goal.fuel-requires
fuel-requires c =
    let f = c.requires.0 in
    let w = c.requires.1 in
    let hc = w HC in
    let co = w CO in
    let co2 = w CO2 in
    let nmhc = w NMHC in
    record {
      k_most = f.k.1;
      f1_most = f.hc.1;
      f2_most = f.co.1;
      f3_most = f.co2.1;
      light = f.density.0;
      heavy = f.density.1;
      hc_size = search rules;
      co_size = search rules;
      co2_size = search rules;
    }
