-- From what the parts were judged for to what the stages of the test ask. Assumes nothing.
use mathlib.Core.Path.{◌≡◌, refl}
use mathlib.Core.Bool.{Bool, true, false, cond}
use Prim.Native.Nat.{◌+◌, ◌*◌, ◌≤◌}
use native.Mathlib.Omega.{arith}
use lib.Dec.{eqb}
use borrow.Author.Tests.{eqb-true}
use lib.IntN.{pos}
use Rattle.arith.proofs.Size.{exactly-size, wider-size}
use Rattle.refusal.specs.declared.Gas.{Gas}
use Rattle.bag.specs.declared.BagSheet.{BagSheet}
use Rattle.bag.specs.declared.Part.{Part}
use Rattle.bag.specs.declared.Triple.{Triple}
use Rattle.bag.specs.Sound.{Tested}
use Rattle.bag.proofs.Gas.{by-gas}
use Rattle.weigh.specs.Test.{weights_of}
use Rattle.stage.specs.Ranges.{largest_rate}
use Rattle.stage.proofs.Sizes.{rate-size}
use Rattle.weigh.proofs.Sizes.{weights-whole, weighted-size}
use Rattle.cutter.specs.declared.Cutter.{Cutter}
use Rattle.sides.specs.declared.Sides.{Sides}
use Rattle.sides.specs.declared.TestSides.{TestSides}
use Rattle.sides.specs.Gases.{nothing}
use Rattle.sides.proofs.Each.{each_at}
use Rattle.part.specs.Part.{rates_of, part_of}
use Rattle.part.specs.Ranges.{PartRanges, largest_mass_of}
use Rattle.part.proofs.Sizes.{mass-in-sizes}
use Rattle.late.specs.Ranges.{PartsRanges}
use Rattle.emission.specs.declared.Parts.{Parts}
use Rattle.emission.specs.Test.{no_part, third_part, parts_in, weighted_gases, weighted_in}
use Rattle.emission.specs.Ranges.{RateSizes, WeighRanges, ResultRanges}

-- ---- rates
rate-sizes : {triple : Triple} {c : Cutter} {p : Part} {sides : Sides} → PartRanges triple c p sides → RateSizes (part_of triple c p sides).rate
unfolding part_of rates_of
rate-sizes {p = p} r gas = rw (each_at gas) (rate-size p.distance r.ranged.distance.0 (mass-in-sizes r gas))

no-rates : RateSizes no_part.rate
unfolding nothing
no-rates gas = rw (each_at gas) (exactly-size (pos 0) (omega arith))

third_sizes : (s : BagSheet) (c : Cutter) (sides : Sides) → (s.class ≡ 3 → PartRanges s.triple c s.third sides) → RateSizes (third_part s c sides).rate
unfolding third_part
third_sizes s c sides h = go (eqb s.class 3) (eqb-true s.class 3)
  where
    go : (b : Bool) → (b ≡ true → s.class ≡ 3) → RateSizes (cond b (part_of s.triple c s.third sides) no_part).rate
    go true f = rate-sizes (h (f refl))
    go false f = no-rates

pub result-ranges : {s : BagSheet} {c : Cutter} {r : TestSides} → Tested s → PartsRanges s c r → ResultRanges s (parts_in s c r)
unfolding parts_in
result-ranges {s} {c} {r} t p =
    record {
      tested = t;
      first_sizes = rate-sizes p.first;
      second_sizes = rate-sizes p.second;
      third_sizes = third_sizes s c r.third p.third;
    }

-- ---- the weighted result. The fifth gas's rates are the largest
weighed : (gas : Gas) → 10 * largest_mass_of gas ≤ largest_rate
weighed = by-gas (λ gas. 10 * largest_mass_of gas ≤ largest_rate) (omega arith) (omega arith) (omega arith) (omega arith) (omega arith)

module _ {s : BagSheet} {parts : Parts} (r : ResultRanges s parts) where
  whole : (weights_of s.class).first + (weights_of s.class).second + (weights_of s.class).third ≡ 100
  whole = weights-whole s.class r.tested.class.0 r.tested.class.1

  pub weigh-ranges : WeighRanges (weights_of s.class) parts.first.rate parts.second.rate parts.third.rate
  weigh-ranges gas =
      let most = weighed gas in
      record {
        whole = whole;
        first_size = wider-size most (r.first_sizes gas);
        second_size = wider-size most (r.second_sizes gas);
        third_size = wider-size most (r.third_sizes gas);
      }

  pub weighted-sizes : RateSizes (weighted_in s parts)
  unfolding weighted_gases
  weighted-sizes gas =
      rw (each_at gas) (weighted-size (weights_of s.class) whole (r.first_sizes gas) (r.second_sizes gas) (r.third_sizes gas))
