-- How large the outcome of each stage can be, from the sizes of what it is given: so a caller meets what the next stage asks. The
-- bounds are those of specs/Ranges.antt. Assumes nothing.
use Prim.Native.Nat.{ℕ, ◌-◌, ◌*◌, ◌≤◌, ◌<◌}
use native.Mathlib.Nat.{mul-le-mul_right}
use native.Mathlib.Omega.{arith}
use lib.IntN.{ℤ, pos, negsuc, ◌*ℤ◌}
use lib.Signed.{◌≤ℤ◌}
use Rattle.arith.specs.declared.Ends.{Ends}
use Rattle.arith.specs.Stages.{divided_by}
use Rattle.arith.specs.Fitting.{Sized}
use Rattle.arith.proofs.Parts.{zs, mul-parts}
use Rattle.arith.proofs.Size.{wider-size, exactly-size, scaled-size, product-size, divided-size}
use Rattle.bag.specs.Fields.{distance_range, density_range}
use Rattle.stage.specs.Combination.{combination_of}
use Rattle.stage.specs.Part.{gtr, kelvin_of, volume_of, g_of, net_of, concentration_of, gas_volume_of, mass_of, vapour_of, dry_of, kh_of, nox_mass_of, rate_of}
use Rattle.stage.specs.Ranges.{UpTo, VolumeRanges, GRanges, ConcentrationRanges, KhRanges, NoxMassRanges}
use Rattle.stage.specs.Ranges.{largest_reading, largest_signed, largest_g, largest_volume, largest_concentration, largest_gas_volume, largest_mass}
use Rattle.stage.specs.Ranges.{largest_kh, largest_nox_mass}
use Rattle.stage.proofs.UpTo.{wider-up_to, sum-up_to, times-up_to, product-up_to, difference-up_to-size}
use Rattle.stage.proofs.Steps.{kelvin-least, swept-most, q-positive, rest-up_to, net-size, vapour-most, divisor-least}

-- a divisor that is at least k
pub divided-by-size : {q : ℕ} {a : Ends} (k : ℕ) (d : ℤ) → 0 < k → pos k ≤ℤ d → Sized (k * q) a → Sized q (divided_by a d)
divided-by-size {q} k (pos d) p h s = divided-size d (omega zs) (wider-size (mul-le-mul_right q (omega zs)) s)
divided-by-size k (negsuc d) p h s = absurd h.le

-- ---- volume
pub volume_size :
    {pump revolutions barometer depression : ℕ} {temperature : ℤ} → VolumeRanges pump revolutions barometer depression temperature →
    Sized largest_volume (volume_of gtr pump revolutions barometer depression temperature)
unfolding volume_of
volume_size {pump} {revolutions} {barometer} {depression} {temperature} r =
    let k = kelvin-least r in
    divided-by-size (101325 * 4663) (pos 101325 *ℤ kelvin_of gtr temperature) (omega arith)
    (omega (zs, mul-parts (pos 101325) (kelvin_of gtr temperature)))
    (exactly-size (pos (pump * revolutions * (barometer - depression) * gtr.temperature)) (omega (arith, swept-most r)))

-- ---- dilution
pub g-up_to : {co2 co hc : Ends} {wc wh : ℕ} → GRanges co2 co hc wc wh → UpTo largest_g (g_of co2 co hc wc wh)
unfolding g_of combination_of
g-up_to {wc = wc} {wh = wh} r =
    sum-up_to (sum-up_to (times-up_to {m = 10} 10 (omega arith) r.co2_reading) (times-up_to wc r.wc_most r.co_reading))
    (times-up_to wh r.wh_most r.hc_reading)

module _ {bag air g : Ends} {q : ℕ} (r : ConcentrationRanges bag air g q) where
  concentration-by : (m : ℕ) → Sized (m * q) (net_of bag air g q) → Sized (16 * m) (concentration_of bag air g q)
  unfolding concentration_of
  concentration-by m h =
      divided-size q (omega (zs, q-positive r)) (wider-size (omega arith) (scaled-size {m = 16} (pos 16) (omega arith) h))

  pub signed-concentration-size : Sized (4 * largest_concentration) (concentration_of bag air g q)
  signed-concentration-size = concentration-by (2 * largest_signed) (wider-size (omega arith) (net-size r))

  -- readings are not negative, so that neither adds to the other
  pub concentration_size : UpTo largest_reading bag → UpTo largest_reading air → Sized largest_concentration (concentration_of bag air g q)
  concentration_size b a =
      concentration-by largest_reading
      (difference-up_to-size (wider-up_to (times-up_to {m = q} q (omega arith) b) (omega arith)) (product-up_to a (rest-up_to r)))

-- ---- mass, of a concentration up to k times the largest of readings
pub gas-volume-size : {volume concentration : Ends} (k : ℕ) →
    Sized largest_volume volume → Sized (k * largest_concentration) concentration → Sized (k * largest_gas_volume) (gas_volume_of volume concentration)
unfolding gas_volume_of
gas-volume-size k v c = divided-size 4096000 (omega arith) (wider-size (omega arith) (product-size v c))

pub mass_size : {gas : Ends} {density : ℕ} (k : ℕ) →
    Sized (k * largest_gas_volume) gas → density ≤ density_range.most → Sized (k * largest_mass) (mass_of gas density)
unfolding mass_of
mass_size {density = density} k v h = divided-size 1000000 (omega arith) (wider-size (omega arith) (scaled-size (pos density) h v))

-- ---- humidity
pub kh_size : {humidity saturation barometer : ℕ} → KhRanges humidity saturation barometer → Sized largest_kh (kh_of humidity saturation barometer)
unfolding kh_of
kh_size {humidity} {saturation} {barometer} r =
    let least = divisor-least r in
    divided-size (1352030 * dry_of humidity saturation barometer - 20434190 * vapour_of humidity saturation)
    (omega (arith, vapour-most r.ranges, r.ranges.low))
    (exactly-size (pos (65536000000 * dry_of humidity saturation barometer)) (omega arith))

pub nox-mass-size : {mass kh : Ends} → NoxMassRanges mass kh → Sized largest_nox_mass (nox_mass_of mass kh)
unfolding nox_mass_of
nox-mass-size r = divided-size 65536 (omega arith) (wider-size (omega arith) (product-size r.mass_size r.kh_size))

-- ---- rate: at most ten times the mass, since the distance is at least 100 m
pub rate-size : {m : ℕ} {mass : Ends} (distance : ℕ) → distance_range.least ≤ distance → Sized m mass → Sized (10 * m) (rate_of mass distance)
unfolding rate_of
rate-size distance h s =
    divided-by-size distance_range.least (pos distance) (omega arith) (omega zs)
    (wider-size (omega arith) (scaled-size {m = 1000} (pos 1000) (omega arith) s))
