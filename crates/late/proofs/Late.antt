-- From the accepted sheet and its readings to what the judging asks, and from there to what a part asks. Assumes nothing.
use mathlib.Core.Path.{◌≡◌, sym}
use mathlib.Core.Bool.{Bool, true, false, not, ◌||◌, true≢false}
use mathlib.Core.List.{[], ◌∷◌, ◌++◌}
use Prim.Native.Nat.{ℕ}
use Rattle.std.specs.Prelude.{Ok}
use Rattle.refusal.proofs.Judging.{judged-holds}
use Rattle.bag.specs.declared.BagSheet.{BagSheet}
use Rattle.bag.specs.declared.Part.{Part}
use Rattle.bag.specs.Sheet.{of_third}
use Rattle.bag.specs.Sound.{Ranged, Sound}
use Rattle.bag.proofs.Sound.{apart, third-holds}
use Rattle.cutter.specs.NonMethane.{cutter_of, cutter_good}
use Rattle.sides.specs.declared.Sides.{Sides}
use Rattle.sides.specs.declared.TestSides.{TestSides}
use Rattle.sides.specs.ReadIn.{read_part, read_in}
use Rattle.sides.proofs.Sizes.{bag_sizes, air_sizes}
use Rattle.sides.proofs.Taken.{read-parts, third-read, third-bag-sizes}
use Rattle.part.specs.Part.{diluted, dry_enough}
use Rattle.part.specs.Ranges.{PartRanges}
use Rattle.late.specs.Late.{dilution, humidity, efficiencies, late_checks, judge_late}
use Rattle.late.specs.Ranges.{LateRanges, PartsRanges}

-- where the cutter is good and fitted, its efficiencies are far enough apart
good-fitted : (fitted good : Bool) → (not fitted || good) ≡ true → fitted ≡ true → good ≡ true
good-fitted true good e f = e
good-fitted false good e f = absurd (true≢false (sym f))

module _ {s : BagSheet} {r : TestSides} (h : Sound s) (e : read_in s ≡ Ok r) where
  pub late-ranges : LateRanges s (cutter_of s) r
  unfolding cutter_of
  late-ranges =
      let parts = read-parts e in
      record {
        triple_ranged = h.tested.triple;
        first_bag = bag_sizes 1 s.first parts.first;
        second_bag = bag_sizes 2 s.second parts.second;
        third_bag = third-bag-sizes s.class s.third parts.third;
        first = h.first;
        second = h.second;
        third = h.third;
        efficiencies = h.tested.efficiencies;
      }

  part-ranges : (part : ℕ) (p : Part) {sides : Sides} → Ranged p → read_part part p ≡ Ok sides →
      diluted s.triple sides.bag ≡ true → dry_enough p ≡ true → cutter_good (cutter_of s) ≡ true → PartRanges s.triple (cutter_of s) p sides
  unfolding cutter_of
  part-ranges part p ranged read rich humid good =
      record {
        triple_ranged = h.tested.triple;
        cutter_ranged = h.tested.efficiencies;
        ranged = ranged;
        bag_sizes = bag_sizes part p read;
        air_sizes = air_sizes part p read;
        dilution = rich;
        humidity = humid;
        cutter_good = good-fitted _ _ good;
      }

  -- past refusals 13, 14 and 19
  pub parts-ranges : judge_late s (cutter_of s) r ≡ Ok tt → PartsRanges s (cutter_of s) r
  unfolding late_checks
  parts-ranges late =
      let parts = read-parts e in
      let third-rich = of_third s.class (dilution 3 (diluted s.triple r.third.bag) ∷ []) in
      let third-humid = of_third s.class (humidity 3 (dry_enough s.third) ∷ []) in
      let cutter = efficiencies (cutter_good (cutter_of s)) ∷ [] in
      let all-humid = humidity 1 (dry_enough s.first) ∷ humidity 2 (dry_enough s.second) ∷ (third-humid ++ cutter) in
      let (rich-1, (rich-2, later)) = judged-holds (late_checks s (cutter_of s) r) late in
      let (rich-3, (humid-1, (humid-2, last))) = apart third-rich all-humid later in
      let (humid-3, (good, end)) = apart third-humid cutter last in
      record {
        first = part-ranges 1 s.first h.first parts.first rich-1 humid-1 good;
        second = part-ranges 2 s.second h.second parts.second rich-2 humid-2 good;
        third =
            λ c. part-ranges 3 s.third (h.third c) (third-read s.class s.third parts.third c)
            (third-holds s.class _ rich-3 c).0 (third-holds s.class _ humid-3 c).0 good;
      }
