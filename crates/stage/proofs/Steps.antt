-- How large what a stage works out on its way can be, so that its own sums and products fit the machine. Assumes nothing.
use Prim.Native.Nat.{ℕ, ◌+◌, ◌-◌, ◌*◌, ◌≤◌}
use native.Mathlib.Nat.{mul-le-mul}
use native.Mathlib.Omega.{arith}
use borrow.Author.Tests.{leb-true}
use lib.IntN.{ℤ, pos, ◌*ℤ◌}
use lib.Signed.{◌≤ℤ◌, ◌<ℤ◌}
use Rattle.arith.specs.declared.Ends.{Ends}
use Rattle.arith.specs.Stages.{exactly, difference_of, scaled_by, product_of}
use Rattle.arith.specs.Fitting.{Sized}
use Rattle.arith.proofs.Parts.{zs, add_parts, sub_parts, mul-parts}
use Rattle.arith.proofs.Machine.{lt-true}
use Rattle.arith.proofs.Size.{sum-size, difference-size, scaled-size, product-size}
use Rattle.bag.specs.Fields.{most_pumped, barometer_range}
use Rattle.stage.specs.Combination.{combination_of}
use Rattle.stage.specs.Part.{gtr, kelvin_of, net_of, vapour_of, dry_of, humidity_good}
use Rattle.stage.specs.Ranges.{UpTo, VolumeRanges, ConcentrationRanges, HumidityRanges, KhRanges, largest_signed}
use Rattle.stage.proofs.UpTo.{up_to-size}

-- three numbers of size m, with factors up to j, k and l
pub combination-size :
    {m j k l : ℕ} {a b c : Ends} (x y z : ℕ) → x ≤ j → y ≤ k → z ≤ l →
    Sized m a → Sized m b → Sized m c → Sized (j * m + k * m + l * m) (combination_of x a y b z c)
unfolding combination_of
combination-size x y z hx hy hz ha hb hc =
    sum-size (sum-size (scaled-size (pos x) hx ha) (scaled-size (pos y) hy hb)) (scaled-size (pos z) hz hc)

-- ---- volume
module _ {pump revolutions barometer depression : ℕ} {temperature : ℤ} (r : VolumeRanges pump revolutions barometer depression temperature) where
  pub kelvin-least : pos 4663 ≤ℤ kelvin_of gtr temperature
  kelvin-least = omega (zs, r.cold, mul-parts (pos 2) temperature, add_parts (pos 2 *ℤ temperature) (pos 5463))

  pub kelvin-most : kelvin_of gtr temperature ≤ℤ pos 8463
  kelvin-most = omega (zs, r.hot, mul-parts (pos 2) temperature, add_parts (pos 2 *ℤ temperature) (pos 5463))

  pub swept-most : pump * revolutions * (barometer - depression) ≤ most_pumped * barometer_range.most
  swept-most =
      let h : barometer - depression ≤ barometer_range.most = omega (arith, r.high) in
      mul-le-mul r.swept h

-- ---- dilution
module _ {bag air g : Ends} {q : ℕ} (r : ConcentrationRanges bag air g q) where
  below : g.upper <ℤ pos q
  below = lt-true r.good

  pub q-positive : pos 0 <ℤ pos q
  q-positive = omega (zs, below, r.g_range.least, r.g_range.ordered)

  -- Q − G
  pub rest-up_to : UpTo q (difference_of (exactly (pos q)) g)
  unfolding difference_of exactly
  rest-up_to =
      let u = r.g_range in
      record {
        least = omega (zs, below, sub_parts (pos q) g.upper);
        ordered = omega (zs, u.ordered, sub_parts (pos q) g.lower, sub_parts (pos q) g.upper);
        most = omega (zs, u.least, sub_parts (pos q) g.lower);
      }

  -- air (Q − G), and bag Q
  pub from-air-size : Sized (largest_signed * q) (product_of air (difference_of (exactly (pos q)) g))
  from-air-size = product-size r.air_size (up_to-size rest-up_to)

  pub from-bag-size : Sized (q * largest_signed) (scaled_by (pos q) bag)
  from-bag-size = scaled-size (pos q) (omega arith) r.bag_size

  pub net-size : Sized (q * largest_signed + largest_signed * q) (net_of bag air g q)
  net-size = difference-size from-bag-size from-air-size

-- ---- humidity
module _ {humidity saturation barometer : ℕ} (r : HumidityRanges humidity saturation barometer) where
  pub vapour-most : vapour_of humidity saturation ≤ 12000000
  vapour-most = omega (arith, mul-le-mul r.humidity_most r.saturation_most)

module _ {humidity saturation barometer : ℕ} (r : KhRanges humidity saturation barometer) where
  pub humid : 6211 * vapour_of humidity saturation ≤ 300 * dry_of humidity saturation barometer
  unfolding humidity_good
  humid = leb-true _ _ r.good

  -- H at most 30 leaves this much of the divisor, since 20,434,190 x 300 is 987,000 x 6,211
  pub divisor-least :
      365030 * dry_of humidity saturation barometer
      ≤ 1352030 * dry_of humidity saturation barometer - 20434190 * vapour_of humidity saturation
  divisor-least = omega (arith, humid)

-- so the divisor is not below zero
pub divisor_is_whole : (humidity saturation barometer : ℕ) → KhRanges humidity saturation barometer →
    20434190 * vapour_of humidity saturation ≤ 1352030 * dry_of humidity saturation barometer
divisor_is_whole humidity saturation barometer r = omega (arith, humid r)
