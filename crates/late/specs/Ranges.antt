-- What the judging asks, from what an accepted sheet and its readings tell.
use Rattle.std.specs.Prelude.{◌≡◌}
use Rattle.bag.specs.declared.BagSheet.{BagSheet}
use Rattle.bag.specs.Sound.{Ranged, RangedTriple, RangedEfficiencies}
use Rattle.cutter.specs.declared.Cutter.{Cutter}
use Rattle.sides.specs.declared.TestSides.{TestSides}
use Rattle.sides.specs.Ranges.{ReadingSizes}
use Rattle.part.specs.Ranges.{PartRanges}

pub record LateRanges (s : BagSheet) (c : Cutter) (r : TestSides) : Type 0 where
  pub triple_ranged : RangedTriple s.triple
  pub first_bag : ReadingSizes r.first.bag
  pub second_bag : ReadingSizes r.second.bag
  pub third_bag : ReadingSizes r.third.bag
  pub first : Ranged s.first
  pub second : Ranged s.second
  pub third : s.class ≡ 3 → Ranged s.third
  pub efficiencies : RangedEfficiencies c.efficiencies

-- past refusals 13, 14 and 19: what each part asks of its stages
pub record PartsRanges (s : BagSheet) (c : Cutter) (r : TestSides) : Type 0 where
  pub first : PartRanges s.triple c s.first r.first
  pub second : PartRanges s.triple c s.second r.second
  pub third : s.class ≡ 3 → PartRanges s.triple c s.third r.third
