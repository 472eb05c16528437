-- One law a stage: where the exact values of what it is given are between their ends, its own exact value is between its ends. Assumes nothing.
use mathlib.Core.Path.{◌≡◌, refl, ap}
use Prim.Native.Nat.{ℕ, zero, suc, ◌-◌, ◌*◌, ◌≤◌, ◌<◌}
use native.Mathlib.Omega.{arith}
use lib.IntN.{ℤ, pos, negsuc, ◌+ℤ◌, ◌-ℤ◌, ◌*ℤ◌}
use lib.Signed.{◌≤ℤ◌}
use Rattle.arith.specs.declared.Ends.{Ends}
use Rattle.arith.specs.Stages.{exactly, difference_of, scaled_by, divided_by}
use Rattle.arith.specs.Fraction.{Fraction, decimal, whole, ◌+ᶠ◌, ◌-ᶠ◌, ◌*ᶠ◌, ◌/ᶠ◌, Between}
use Rattle.arith.proofs.Parts.{up, zs, add_parts, sub_parts, mul-parts}
use Rattle.arith.proofs.Ring.{one-mul, mul-one, mul-pos, products}
use Rattle.arith.proofs.Enclosure.{exactly-holds, sum-holds, scaled-holds, product-holds, divided-holds, same-value}
use Rattle.weigh.specs.declared.Weights.{Weights}
use Rattle.stage.specs.Combination.{combination_of}
use Rattle.stage.specs.Part.{gtr, kelvin_of, volume_of, g_of, concentration_of, gas_volume_of, mass_of, vapour_of, dry_of, kh_of, nox_mass_of, rate_of}
use Rattle.weigh.specs.Test.{weights_of, weighted_of, fuel_of}
use Rattle.stage.specs.Ranges.{VolumeRanges, KhRanges}
use Rattle.stage.proofs.Steps.{kelvin-least, vapour-most, divisor-least}
use Rattle.bag.specs.declared.Part.{Part}
use Rattle.bag.specs.declared.Efficiencies.{Efficiencies}
use Rattle.cutter.specs.NonMethane.{non_methane_of}
use Rattle.part.specs.Part.{volume_in}
use Rattle.claims.specs.Exact.{count, exact_volume, exact_non_methane, exact_h, exact_kh, percent_of}
use Rattle.claims.proofs.Scales.{In, same_in, in_ones, of_ones, exactly-in, scaled-in, raised-in, finer-in, sum-in, difference-in, product-in, divided-in}

-- ---- fractions of naturals
abbrev ratio : ℕ → ℕ → Fraction
ratio n d = decimal (pos n) d

same_parts : {n m d e : ℤ} → n ≡ m → d ≡ e → ◌≡◌ {A = Fraction} (record { num = n; den = d }) (record { num = m; den = e })
same_parts p q = cc

-- ---- volume
natural : (z : ℤ) → pos 0 ≤ℤ z → z ≡ pos (up z)
natural (pos n) h = refl
natural (negsuc n) h = absurd h.le

-- s the pressure, k the temperature above absolute zero in 0.05 K
volume-at :
    (pump revolutions s k : ℕ) (d : ℤ) (x y : Fraction) → 0 < k → d ≡ pos (101325 * k) → x ≡ count s → y ≡ decimal (pos (50 * k)) 1000 →
    Between (divided_by (exactly (pos (pump * revolutions * s * 5863))) d)
    (decimal (pos 29315) 100 *ᶠ count pump *ᶠ count revolutions *ᶠ x /ᶠ (count 101325 *ᶠ y))
volume-at pump revolutions s k d x y h e f g =
    rw (e, f, g) (same-value (divided-holds (exactly-holds (pos (pump * revolutions * s * 5863))) (pos (101325 * k)) (omega zs)) _ (omega zs) (omega zs))

pub volume-holds : (p : Part) → VolumeRanges p.pump p.revolutions p.barometer p.depression p.temperature → Between (volume_in p) (exact_volume p)
unfolding volume_of exact_volume
volume-holds p r =
    let t = p.temperature in
    let k = up (kelvin_of gtr t) in
    let warm = kelvin-least r in
    let same = natural (kelvin_of gtr t) (omega (zs, warm)) in
    let pressure : pos (1 * p.barometer) -ℤ pos (1 * p.depression) ≡ pos (p.barometer - p.depression) =
    omega (zs, r.low, r.inlet, sub_parts (pos (1 * p.barometer)) (pos (1 * p.depression))) in
    let temperature : pos 100 *ℤ t +ℤ pos 273150 ≡ pos (50 * k) =
    omega (zs, mul-parts (pos 2) t, add_parts (pos 2 *ℤ t) (pos 5463), mul-parts (pos 100) t, add_parts (pos 100 *ℤ t) (pos 273150)) in
    volume-at p.pump p.revolutions (p.barometer - p.depression) k _ _ _ (omega (zs, warm))
    (ap (λ (z : ℤ). pos 101325 *ℤ z) same) (ap whole pressure) (ap (λ (z : ℤ). decimal z 1000) temperature)

-- ---- three numbers, each with its own factor
pub combination-holds :
    {a b c : Ends} {x y z : Fraction} (j k l : ℕ) → Between a x → Between b y → Between c z →
    Between (combination_of j a k b l c) (count j *ᶠ x +ᶠ count k *ᶠ y +ᶠ count l *ᶠ z)
unfolding combination_of
combination-holds j k l a b c = sum-holds (sum-holds (scaled-holds a (pos j)) (scaled-holds b (pos k))) (scaled-holds c (pos l))

-- ---- readings and G are in 1/256 ppm, concentrations in 1/4,096 ppm
pub g-holds : {co2 co hc : Ends} {x y z : Fraction} (wc wh : ℕ) → In 256 co2 x → In 256 co y → In 256 hc z →
    In 256 (g_of co2 co hc wc wh) (count 10 *ᶠ x +ᶠ count wc *ᶠ y +ᶠ count wh *ᶠ z)
unfolding g_of combination_of
g-holds wc wh x y z = sum-in (sum-in (scaled-in 10 x) (scaled-in wc y)) (scaled-in wh z)

-- ---- hydrocarbons without methane: n the net reading in thousandths, k the thousand, d what the efficiencies are apart
net-same : (a k xn xd yn yd : ℤ) → yd *ℤ (xn *ℤ a) -ℤ (xd *ℤ k) *ℤ yn ≡ (pos 1 *ℤ yd) *ℤ (a *ℤ xn) -ℤ (pos 1 *ℤ xd) *ℤ (k *ℤ yn)
net-same a k xn xd yn yd =
    let first : yd *ℤ (xn *ℤ a) ≡ (pos 1 *ℤ yd) *ℤ (a *ℤ xn) = simp (one-mul, products) in
    let second : (xd *ℤ k) *ℤ yn ≡ (pos 1 *ℤ xd) *ℤ (k *ℤ yn) = simp (one-mul, products) in
    λ i. first i -ℤ second i

apart-same : (n k d xd yd : ℤ) → ((yd *ℤ (xd *ℤ k)) *ℤ (k *ℤ d)) *ℤ (n *ℤ pos 1) ≡ (((pos 1 *ℤ yd) *ℤ (pos 1 *ℤ xd)) *ℤ d) *ℤ (n *ℤ (k *ℤ k))
apart-same n k d xd yd = simp (one-mul, mul-one, products)

-- a is 1,000 less the methane efficiency, d the ethane efficiency less it; u and v are the same as fractions of 1
non-methane-at :
    {hc behind : Ends} {x y : Fraction} (a d : ℕ) (u v : Fraction) → 0 < d → u ≡ decimal (pos a) 1000 → v ≡ decimal (pos (1000 * d)) 1000000 →
    In 256 hc x → In 256 behind y →
    In 256 (divided_by (difference_of (scaled_by (pos a) hc) (scaled_by (pos 1000) behind)) (pos d)) ((x *ᶠ u -ᶠ y) /ᶠ v)
non-methane-at {x = x} {y = y} a d u v h e f hc behind =
    let net = difference-in (scaled-in a hc) (scaled-in 1000 behind) in
    let one : 1 * d ≡ d = omega arith in
    rw (e, f)
    (same_in (rw one at (divided-in 1 256 d (omega arith) h net)) _
    (mul-pos (mul-pos behind.holds.positive (mul-pos hc.holds.positive (omega zs))) (omega zs))
    (rw (net-same (pos a) (pos 1000) x.num x.den y.num y.den) (apart-same (count a *ᶠ x -ᶠ count 1000 *ᶠ y).num (pos 1000) (pos d) x.den y.den)))

pub non-methane-holds : {hc behind : Ends} {x y : Fraction} (e : Efficiencies) → e.methane ≤ 1000 → e.methane < e.ethane → In 256 hc x → In 256 behind y →
    In 256 (non_methane_of e hc behind) (exact_non_methane e x y)
unfolding non_methane_of exact_non_methane
non-methane-holds e m d hc behind =
    let left : pos 1000 -ℤ pos (1 * e.methane) ≡ pos (1000 - e.methane) = omega (zs, sub_parts (pos 1000) (pos (1 * e.methane))) in
    let apart : pos (1000 * e.ethane) -ℤ pos (1000 * e.methane) ≡ pos (1000 * (e.ethane - e.methane)) =
    omega (zs, sub_parts (pos (1000 * e.ethane)) (pos (1000 * e.methane))) in
    non-methane-at (1000 - e.methane) (e.ethane - e.methane) _ _ (omega arith) (ap (λ (z : ℤ). decimal z 1000) left) (ap (λ (z : ℤ). decimal z 1000000) apart) hc behind

pub concentration-holds : {bag air g : Ends} {x y z : Fraction} (q : ℕ) → 0 < q → In 256 bag x → In 256 air y → In 256 g z →
    In 4096 (concentration_of bag air g (256 * q)) ((count q *ᶠ x -ᶠ y *ᶠ (count q -ᶠ z)) /ᶠ count q)
unfolding concentration_of
concentration-holds q h bag air g =
    let net = difference-in (raised-in 256 q bag) (product-in air (difference-in (exactly-in 256 q) g)) in
    divided-in 256 4096 q (omega arith) h (finer-in 16 net)

pub gas-volume-holds : {volume concentration : Ends} {v c : Fraction} → Between volume v → In 4096 concentration c →
    Between (gas_volume_of volume concentration) (v *ᶠ c /ᶠ count 1000)
unfolding gas_volume_of
gas-volume-holds v c = of_ones (divided-in 4096 1 1000 (omega arith) (omega arith) (product-in (in_ones v) c))

-- ---- mass
pub mass-holds : {gas : Ends} {v : Fraction} (density : ℕ) → Between gas v → Between (mass_of gas density) (count density *ᶠ v /ᶠ count 1000000)
unfolding mass_of
mass-holds density v = divided-holds (scaled-holds v (pos density)) (pos 1000000) (omega zs)

-- ---- humidity: v the vapour's pressure, b the dry air's, in mPa
h-value : (p : Part) → KhRanges p.humidity p.saturation p.barometer →
    exact_h p ≡ ratio (6211000 * vapour_of p.humidity p.saturation) (10000 * dry_of p.humidity p.saturation p.barometer)
unfolding exact_h
h-value p r =
    let v = p.saturation * p.humidity in
    let room = vapour-most r.ranges in
    let dry : pos (1000 * p.barometer) -ℤ pos (1 * (v * 1)) ≡ pos (dry_of p.humidity p.saturation p.barometer) =
    omega (zs, r.ranges.low, sub_parts (pos (1000 * p.barometer)) (pos (1 * (v * 1)))) in
    same_parts (omega zs) (ap (λ (z : ℤ). pos 10000 *ℤ z) dry)

kh-divisor : (v b : ℕ) → 20434190 * v ≤ 1352030 * b →
    count 1 -ᶠ decimal (pos 329) 10000 *ᶠ (ratio (6211000 * v) (10000 * b) -ᶠ decimal (pos 107) 10)
    ≡ ratio (1000 * (1352030 * b - 20434190 * v)) (1000000000 * b)
kh-divisor v b h =
    let a = pos (10 * (6211000 * v)) in
    let c = pos (10000 * b * 107) in
    let d = pos (10000 * (10 * (10000 * b)) * 1) in
    let e = pos 329 *ℤ (a -ℤ c) in
    same_parts (omega (zs, sub_parts a c, mul-parts (pos 329) (a -ℤ c), mul-parts (pos 1) e, sub_parts d (pos 1 *ℤ e))) (omega zs)

kh-at : (b n : ℕ) (x : Fraction) → 0 < b → 0 < n → x ≡ ratio (1000 * n) (1000000000 * b) →
    Between (divided_by (exactly (pos (65536000000 * b))) (pos n)) (count 65536 *ᶠ (count 1 /ᶠ x))
kh-at b n x h k e = rw e (same-value (divided-holds (exactly-holds (pos (65536000000 * b))) (pos n) (omega zs)) _ (omega zs) (omega zs))

pub kh-holds : (p : Part) → KhRanges p.humidity p.saturation p.barometer →
    Between (kh_of p.humidity p.saturation p.barometer) (count 65536 *ᶠ exact_kh p)
unfolding kh_of exact_kh
kh-holds p r =
    let v = vapour_of p.humidity p.saturation in
    let b = dry_of p.humidity p.saturation p.barometer in
    let least = divisor-least r in
    let room = vapour-most r.ranges in
    let low = r.ranges.low in
    kh-at b (1352030 * b - 20434190 * v) (count 1 -ᶠ decimal (pos 329) 10000 *ᶠ (exact_h p -ᶠ decimal (pos 107) 10)) (omega arith) (omega arith)
    (rw (h-value p r) (kh-divisor v b (omega arith)))

-- Kh's ends are in 1/65,536
pub nox-mass-holds : {mass kh : Ends} {m : Fraction} (k : Fraction) → Between mass m → Between kh (count 65536 *ᶠ k) → Between (nox_mass_of mass kh) (m *ᶠ k)
unfolding nox_mass_of
nox-mass-holds {m = m} k h i =
    same-value (divided-holds (product-holds h i) (pos 65536) (omega zs)) (m *ᶠ k)
    (mul-pos h.positive (rw one-mul at i.positive))
    (simp (mul-one, one-mul, products))

-- ---- rate
pub rate-holds : {mass : Ends} {m : Fraction} (distance : ℕ) → 0 < distance → Between mass m →
    Between (rate_of mass distance) (count 1000 *ᶠ m /ᶠ count distance)
unfolding rate_of
rate-holds distance h m = divided-holds (scaled-holds m (pos 1000)) (pos distance) (omega zs)

-- ---- the whole test. The core's weights are 01's percentages
pub percent-is : (class : ℕ) → 1 ≤ class → class ≤ 3 → weights_of class ≡ percent_of class
percent-is zero l h = absurd (omega arith)
percent-is (suc zero) l h = refl
percent-is (suc (suc zero)) l h = refl
percent-is (suc (suc (suc zero))) l h = refl
percent-is (suc (suc (suc (suc class)))) l h = absurd (omega arith)

pub weighted-holds :
    {first second third : Ends} {x y z : Fraction} (w percent : Weights) → w ≡ percent → Between first x → Between second y → Between third z →
    Between (weighted_of w first second third) ((count percent.first *ᶠ x +ᶠ count percent.second *ᶠ y +ᶠ count percent.third *ᶠ z) /ᶠ count 100)
unfolding weighted_of
weighted-holds w percent e x y z =
    rw e (divided-holds (combination-holds percent.first percent.second percent.third x y z) (pos 100) (omega zs))

pub fuel-holds :
    {hc co co2 : Ends} {x y z : Fraction} (k f1 f2 f3 density : ℕ) → 0 < density → Between hc x → Between co y → Between co2 z →
    Between (fuel_of k f1 f2 f3 density hc co co2) (count k *ᶠ (count f1 *ᶠ x +ᶠ count f2 *ᶠ y +ᶠ count f3 *ᶠ z) /ᶠ count (10000 * density))
unfolding fuel_of
fuel-holds k f1 f2 f3 density h x y z = divided-holds (scaled-holds (combination-holds f1 f2 f3 x y z) (pos k)) (pos (10000 * density)) (omega zs)
