-- What the comparison in whole numbers says in km/h: it is that of the speed with the upshift speed as 01 writes it, from one or the other end of e. Each
-- side of it is a multiple of each side of the other. Assumes nothing.
use mathlib.Core.Path.{◌≡◌, refl, sym, ap, subst, ◌∙◌}
use mathlib.Core.Bool.{Bool, true, false, not, cond}
use Prim.Native.Nat.{ℕ, ◌+◌, ◌-◌, ◌*◌, ◌<◌}
use native.Mathlib.Omega.{arith}
use native.Mathlib.Nat.{mul-le-mul}
use lib.Dec.{T, eqb}
use lib.IntN.{ℤ, pos, ◌+ℤ◌, ◌-ℤ◌, ◌*ℤ◌, *ℤ_comm}
use lib.Signed.{◌≤ℤ◌, ◌<ℤ◌, le_z, lt_z, lt_z_yes, lt_z_no, clash_ℤ, ≤ℤ_refl}
use Rattle.arith.specs.declared.Ends.{Ends}
use Rattle.arith.specs.Stages.{exactly, sum_of, difference_of, scaled_by}
use Rattle.arith.specs.Fraction.{Fraction, whole, decimal, ◌+ᶠ◌, ◌-ᶠ◌, ◌*ᶠ◌, ◌/ᶠ◌}
use Rattle.arith.proofs.Parts.{zs, sub_parts}
use Rattle.arith.proofs.Ring.{mul-add, mul-sub, mul-neg, one-mul, mul-one, mul_mono, mul-mono-<, sub-mono, products, <-≤}
use Rattle.vehicle.specs.declared.VehicleSheet.{VehicleSheet}
use Rattle.vehicle.specs.Sheet.{ndv_at, Sound}
use Rattle.vehicle.specs.Engine.{engine_speed, lowest_engine_speed, below_lowest}
use Rattle.shift.specs.Speeds.{power_of, side_unit, side_of, share, tenth, first_side, higher_side, left_of}
use Rattle.shift.specs.Exact.{above_idle, exact_first, exact_higher, exact_upshift, exact_speed, exact_engine_speed, exact_lowest, from_units, less, Compared}
use Rattle.shift.proofs.Sides.{exponent}
use Rattle.shift.proofs.ExactTerms.{exponential-ordered}

-- ---- a test keeps its answer where both sides are multiplied by a positive number
pub test-true : {a b : ℤ} → a <ℤ b → lt_z a b ≡ true
test-true {a} {b} h = go (lt_z a b) (λ t. clash_ℤ h (lt_z_no t))
  where
    go : (t : Bool) → (T (not t) → ⊥) → t ≡ true
    go true n = refl
    go false n = absurd (n tt)

pub test-false : {a b : ℤ} → b ≤ℤ a → lt_z a b ≡ false
test-false {a} {b} h = go (lt_z a b) (λ t. clash_ℤ (lt_z_yes t) h)
  where
    go : (t : Bool) → (T t → ⊥) → t ≡ false
    go true n = absurd (n tt)
    go false n = refl

test-times : (k a b : ℤ) → pos 0 <ℤ k → lt_z a b ≡ lt_z (k *ℤ a) (k *ℤ b)
test-times k a b some = go (lt_z a b) lt_z_yes lt_z_no
  where
    go : (t : Bool) → (T t → a <ℤ b) → (T (not t) → b ≤ℤ a) → t ≡ lt_z (k *ℤ a) (k *ℤ b)
    go true held failed = sym (test-true (mul-mono-< k some (held tt)))
    go false held failed = sym (test-false (mul_mono k (<-≤ some) (failed tt)))

-- ---- the ends of a side, where those of its part are in order
order-true : {a b : ℤ} → a ≤ℤ b → le_z a b ≡ true
order-true {a} {b} h = go (le_z a b) h.le
  where
    go : (t : Bool) → T t → t ≡ true
    go true held = refl
    go false held = absurd held

module _ (k : ℕ) {a : Ends} (h : a.lower ≤ℤ a.upper) where
  times-ordered : (pos k *ℤ a.lower) ≤ℤ (pos k *ℤ a.upper)
  times-ordered = mul_mono (pos k) (omega zs) h

  scaled-is : scaled_by (pos k) a ≡ record { lower = pos k *ℤ a.lower; upper = pos k *ℤ a.upper }
  unfolding scaled_by
  scaled-is =
      let l = pos k *ℤ a.lower in
      let u = pos k *ℤ a.upper in
      ap (λ (t : Bool). record { lower = cond t l u; upper = cond t u l }) (order-true times-ordered)

-- ---- the two sides, from an end of e. They are 10,000 x 2^32 times the engine speeds in the brackets
higher_at : ℕ → ℕ → ℤ → ℤ
higher_at w n end = pos w *ℤ (pos share *ℤ end) +ℤ side_unit *ℤ pos n

first_at : ℕ → ℕ → ℤ → ℤ
first_at w n end = pos w *ℤ (pos share *ℤ end -ℤ tenth.lower) +ℤ side_unit *ℤ pos n

module _ {e : Ends} (h : e.lower ≤ℤ e.upper) (w n : ℕ) where
  higher-is : side_of (scaled_by (pos share) e) w n ≡ record { lower = higher_at w n e.lower; upper = higher_at w n e.upper }
  unfolding side_of sum_of exactly higher_at
  higher-is =
      ap (λ (part : Ends). side_of part w n) (scaled-is share h)
      ∙ ap (λ (rise : Ends). sum_of rise (exactly (side_unit *ℤ pos n))) (scaled-is w (times-ordered share h))

  first-is : side_of (difference_of (scaled_by (pos share) e) tenth) w n ≡ record { lower = first_at w n e.lower; upper = first_at w n e.upper }
  unfolding side_of sum_of difference_of exactly first_at
  first-is =
      ap (λ (part : Ends). side_of (difference_of part tenth) w n) (scaled-is share h)
      ∙ ap (λ (rise : Ends). sum_of rise (exactly (side_unit *ℤ pos n))) (scaled-is w (sub-mono (times-ordered share h) (≤ℤ_refl tenth.lower)))

pub sub-mul : (a b c : ℤ) → (a -ℤ b) *ℤ c ≡ a *ℤ c -ℤ b *ℤ c
sub-mul a b c = *ℤ_comm (a -ℤ b) c ∙ mul-sub c a b ∙ (λ i. *ℤ_comm c a i -ℤ *ℤ_comm c b i)

-- ---- the same in km/h
-- t is 10, h is 100, f is 10,000 x 2^32; w is s - n
higher-value : (t h f c w n end : ℤ) → t *ℤ ((pos 1 *ℤ ((c *ℤ end) *ℤ w) +ℤ f *ℤ n) *ℤ h) ≡ (t *ℤ h) *ℤ (w *ℤ (c *ℤ end) +ℤ f *ℤ n)
higher-value t h f c w n end = simp (one-mul, mul-add, products)

-- g is 1,000 x 2^32, a tenth of f
first-value : (t h g c w n end : ℤ)
    → t *ℤ ((pos 1 *ℤ ((t *ℤ (c *ℤ end) -ℤ (t *ℤ g) *ℤ pos 1) *ℤ w) +ℤ (t *ℤ (t *ℤ g)) *ℤ n) *ℤ h) ≡ (t *ℤ (t *ℤ h)) *ℤ (w *ℤ (c *ℤ end -ℤ g) +ℤ (t *ℤ g) *ℤ n)
first-value t h g c w n end = simp (one-mul, mul-one, mul-add, sub-mul, mul-neg, products)

-- an accepted sheet's s is above its n
pub above-idle : {v : VehicleSheet} → Sound v → above_idle v ≡ whole (pos (v.rated - v.idle))
above-idle {v} sound =
    let apart = sound.ranged.apart in
    let e : pos 1 *ℤ pos v.rated -ℤ pos 1 *ℤ pos v.idle ≡ pos (v.rated - v.idle) = omega (zs, sub_parts (pos (1 * v.rated)) (pos (1 * v.idle))) in
    (λ i. record { num = e i; den = pos 1 })

-- an engine speed in a bracket, and its side: both sides of the one comparison are k times those of the other
record Tied (side : ℤ) (engine : Fraction) : Type 0 where
  k : ℕ
  some : 0 < k
  den : engine.den ≡ pos (k * 42949672960)
  num : pos 10 *ℤ (engine.num *ℤ pos 100) ≡ pos k *ℤ side

module _ {side : ℤ} {engine : Fraction} (t : Tied side engine) (ndv : ℕ) where
  den-positive : 0 < ndv → pos 0 <ℤ (engine.den *ℤ pos ndv)
  den-positive h = rw t.den (omega (zs, mul-le-mul t.some h))

  left_tied : (speed : ℕ) → (engine.den *ℤ pos ndv) *ℤ pos speed ≡ pos t.k *ℤ left_of speed ndv
  left_tied speed =
      let same : t.k * 42949672960 * ndv * speed ≡ t.k * (42949672960 * (speed * ndv)) = omega arith in
      rw t.den (ap pos same)

  k-positive : pos 0 <ℤ pos t.k
  k-positive = let h = t.some in omega zs

  below_tied : (speed : ℕ) → lt_z (left_of speed ndv) side ≡ less (exact_speed speed) (engine /ᶠ decimal (pos ndv) 100)
  below_tied speed = test-times (pos t.k) (left_of speed ndv) side k-positive ∙ (λ i. lt_z (sym (left_tied speed) i) (sym t.num i))

  above-tied : (speed : ℕ) → lt_z side (left_of speed ndv) ≡ less (engine /ᶠ decimal (pos ndv) 100) (exact_speed speed)
  above-tied speed = test-times (pos t.k) side (left_of speed ndv) k-positive ∙ (λ i. lt_z (sym t.num i) (sym (left_tied speed) i))

-- ---- of an accepted sheet
module _ {v : VehicleSheet} (sound : Sound v) where
  -- an engine speed is below the lowest in whole numbers where it is as fractions: both sides are 100 times those
  pub lowest-exactly : (gear speed : ℕ) → below_lowest v gear speed ≡ less (exact_engine_speed v gear speed) (exact_lowest v)
  unfolding below_lowest
  lowest-exactly gear speed =
      let n = v.idle in
      let w = v.rated - v.idle in
      let side : 100 * (1000 * n + 30 * w) ≡ 1000 * (100 * n + 1 * (3 * w)) = omega arith in
      subst (λ (q : Fraction). below_lowest v gear speed ≡ less (exact_engine_speed v gear speed) (whole (pos n) +ᶠ decimal (pos 3) 100 *ᶠ q)) (sym (above-idle sound))
      (test-times (pos 100) (pos (engine_speed v gear speed)) (pos (lowest_engine_speed v)) (omega zs)
      ∙ ap (λ (m : ℕ). lt_z (pos (100 * engine_speed v gear speed)) (pos m)) side)

  higher-tied : (end : ℤ) → Tied (higher_at (v.rated - v.idle) v.idle end) (exact_higher v (from_units end))
  unfolding exact_higher higher_at
  higher-tied end =
      let w = v.rated - v.idle in
      let n = v.idle in
      subst (λ (q : Fraction). Tied (higher_at w n end) (decimal (pos 5753) 10000 *ᶠ from_units end *ᶠ q +ᶠ whole (pos n))) (sym (above-idle sound))
      (record { k = 1000; some = omega arith; den = refl; num = higher-value (pos 10) (pos 100) side_unit (pos share) (pos w) (pos n) end })

  first-tied : (end : ℤ) → Tied (first_at (v.rated - v.idle) v.idle end) (exact_first v (from_units end))
  unfolding exact_first first_at exactly
  first-tied end =
      let w = v.rated - v.idle in
      let n = v.idle in
      let part = decimal (pos 5753) 10000 *ᶠ from_units end -ᶠ decimal (pos 1) 10 in
      subst (λ (q : Fraction). Tied (first_at w n end) (part *ᶠ q +ᶠ whole (pos n))) (sym (above-idle sound))
      (record { k = 10000; some = omega arith; den = refl; num = first-value (pos 10) (pos 100) tenth.lower (pos share) (pos w) (pos n) end })

  power-ordered : (power_of v).lower ≤ℤ (power_of v).upper
  power-ordered = exponential-ordered (19 * v.power) (100 * (v.mass + 75)) (exponent sound).some

  -- the upshift 1 to 2, or another
  abbrev engine_by : Bool → ℤ → Fraction
  engine_by b end = cond b (exact_first v (from_units end)) (exact_higher v (from_units end))

  abbrev side_by : Bool → Ends
  side_by b = cond b (first_side v) (higher_side v)

  den-by : (b : Bool) (end : ℤ) (ndv : ℕ) → 0 < ndv → pos 0 <ℤ ((engine_by b end).den *ℤ pos ndv)
  den-by true end ndv h = den-positive (first-tied end) ndv h
  den-by false end ndv h = den-positive (higher-tied end) ndv h

  lower-tied : (b : Bool) → Tied (side_by b).lower (engine_by b (power_of v).lower)
  unfolding first_side higher_side
  lower-tied true = rw (first-is power-ordered (v.rated - v.idle) v.idle) (first-tied (power_of v).lower)
  lower-tied false = rw (higher-is power-ordered (v.rated - v.idle) v.idle) (higher-tied (power_of v).lower)

  upper-tied : (b : Bool) → Tied (side_by b).upper (engine_by b (power_of v).upper)
  unfolding first_side higher_side
  upper-tied true = rw (first-is power-ordered (v.rated - v.idle) v.idle) (first-tied (power_of v).upper)
  upper-tied false = rw (higher-is power-ordered (v.rated - v.idle) v.idle) (higher-tied (power_of v).upper)

  pub compared-exactly : (i speed : ℕ) → i < v.gears → Compared v i speed
  unfolding exact_upshift
  compared-exactly i speed l =
      let ndv = ndv_at v.ndv i in
      record {
        positive = λ end. den-by (eqb i 0) end ndv (omega (arith, (sound.ndv i l).0));
        is_below = below_tied (lower-tied (eqb i 0)) ndv speed;
        is_above = above-tied (upper-tied (eqb i 0)) ndv speed;
      }
