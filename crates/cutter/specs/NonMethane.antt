-- Hydrocarbons without methane (02, M-108; 003, paragraph 4.3.1 (b)), as ends in 1/256 ppm. Efficiencies are in thousandths, so that 1,000 of them are 1.
use Rattle.std.specs.Prelude.{Bool, not, cond, ◌&&◌, ◌||◌, ◌+◌, ◌-◌, leb, eqb, pos}
use Rattle.arith.specs.declared.Ends.{Ends}
use Rattle.arith.specs.Stages.{exactly, difference_of, scaled_by, divided_by}
use Rattle.reading.specs.Units.{is_fitted}
use Rattle.bag.specs.declared.Part.{Part}
use Rattle.bag.specs.declared.BagSheet.{BagSheet}
use Rattle.bag.specs.declared.Efficiencies.{Efficiencies}
use Rattle.cutter.specs.declared.Cutter.{Cutter}

-- ---- whether a test has the fifth gas: "'not fitted' for the cutter reading of bag or air in any part leaves the fifth absent for the whole test"
abbrev pub fitted_in : Part → Bool
fitted_in p = is_fitted p.bag.cutter && is_fitted p.air.cutter

-- class 3 alone has a third part
unfoldable pub cutter_of : BagSheet → Cutter
cutter_of s =
    record {
      fitted = (fitted_in s.first && fitted_in s.second) && (not (eqb s.class 3) || fitted_in s.third);
      efficiencies = s.efficiencies;
    }

-- 19, "where the fifth gas is present and ethane efficiency is under methane efficiency plus 500": where it does not hold
abbrev pub efficient : Efficiencies → Bool
efficient e = leb (e.methane + 500) e.ethane

abbrev pub cutter_good : Cutter → Bool
cutter_good c = not c.fitted || efficient c.efficiencies

-- ---- the formula

-- "(reading without cutter x (1 - methane efficiency) - reading with cutter) / (ethane efficiency - methane efficiency)", "signed and as ends in 1/256 ppm"
unfoldable pub non_methane_of : Efficiencies → Ends → Ends → Ends
non_methane_of e hc behind = divided_by (difference_of (scaled_by (pos (1000 - e.methane)) hc) (scaled_by (pos 1000) behind)) (pos (e.ethane - e.methane))

-- of a bag or of the air: nothing where the test has no fifth gas
unfoldable pub nmhc_of : Cutter → Ends → Ends → Ends
nmhc_of c hc behind = cond c.fitted (non_methane_of c.efficiencies hc behind) (exactly (pos 0))
