-- How large the formula's outcome can be, and what it works out on its way: neither reading is negative, so that neither adds to the other. Assumes nothing.
use mathlib.Core.Path.{◌≡◌, refl}
use mathlib.Core.Bool.{Bool, true, false, cond}
use Prim.Native.Nat.{◌+◌, ◌-◌, ◌*◌, ◌≤◌}
use native.Mathlib.Omega.{arith}
use lib.IntN.{pos}
use borrow.Author.Tests.{leb-true}
use Rattle.arith.specs.declared.Ends.{Ends}
use Rattle.arith.specs.Stages.{exactly, scaled_by}
use Rattle.arith.specs.Fitting.{Sized}
use Rattle.arith.proofs.Parts.{zs}
use Rattle.bag.specs.declared.Efficiencies.{Efficiencies}
use Rattle.arith.proofs.Size.{exactly-size}
use Rattle.stage.specs.Ranges.{UpTo, largest_reading, largest_signed}
use Rattle.stage.proofs.UpTo.{times-up_to, difference-up_to-size}
use Rattle.stage.proofs.Sizes.{divided-by-size}
use Rattle.cutter.specs.declared.Cutter.{Cutter}
use Rattle.cutter.specs.NonMethane.{non_methane_of, nmhc_of}
use Rattle.cutter.specs.Ranges.{NonMethaneRanges, NmhcRanges}

module _ {e : Efficiencies} {hc behind : Ends} (r : NonMethaneRanges e hc behind) where
  -- 500 thousandths at least
  pub far : e.methane + 500 ≤ e.ethane
  far = leb-true (e.methane + 500) e.ethane r.good

  pub without-up_to : UpTo (1000 * largest_reading) (scaled_by (pos (1000 - e.methane)) hc)
  without-up_to = times-up_to {m = 1000} (1000 - e.methane) (omega arith) r.hc_reading

  pub behind-up_to : UpTo (1000 * largest_reading) (scaled_by (pos 1000) behind)
  behind-up_to = times-up_to {m = 1000} 1000 (omega arith) r.behind_reading

  pub non-methane-size : Sized largest_signed (non_methane_of e hc behind)
  unfolding non_methane_of
  non-methane-size =
      let h = far in
      divided-by-size 500 (pos (e.ethane - e.methane)) (omega arith) (omega zs) (difference-up_to-size without-up_to behind-up_to)

-- what the formula asks, where the test has the fifth gas
pub fitted-ranges : {c : Cutter} {hc behind : Ends} → NmhcRanges c hc behind → c.fitted ≡ true → NonMethaneRanges c.efficiencies hc behind
fitted-ranges r e = record { ranged = r.ranged; good = r.good e; hc_reading = r.hc_reading; behind_reading = r.behind_reading }

pub nmhc-size : {c : Cutter} {hc behind : Ends} → NmhcRanges c hc behind → Sized largest_signed (nmhc_of c hc behind)
unfolding nmhc_of
nmhc-size {c} {hc} {behind} r = go c.fitted (fitted-ranges r)
  where
    go : (fitted : Bool) → (fitted ≡ true → NonMethaneRanges c.efficiencies hc behind) →
        Sized largest_signed (cond fitted (non_methane_of c.efficiencies hc behind) (exactly (pos 0)))
    go true h = non-methane-size (h refl)
    go false h = exactly-size (pos 0) (omega arith)
