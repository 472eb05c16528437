-- A comparison with the ends of a side that is not too close falls as the exact one with any number between them. Assumes nothing.
use mathlib.Core.Path.{◌≡◌, refl, sym, subst}
use mathlib.Core.Bool.{Bool, true, false, not, ◌&&◌, true≢false}
use Prim.Native.Nat.{ℕ}
use lib.Dec.{T}
use lib.IntN.{ℤ, pos, ◌*ℤ◌}
use lib.Signed.{◌≤ℤ◌, ◌<ℤ◌, lt_z, lt_z_yes}
use Rattle.arith.specs.declared.Ends.{Ends}
use Rattle.arith.specs.Fraction.{Fraction, whole, decimal, ◌*ᶠ◌, ◌/ᶠ◌, Between}
use Rattle.arith.proofs.Parts.{zs}
use Rattle.arith.proofs.Ring.{one-mul, mul-mono-<, mul-cancel-<, products, <-≤}
use Rattle.shift.specs.Speeds.{side_unit, left_of, below, above, too_close}
use Rattle.shift.specs.Exact.{exact_speed, less}
use Rattle.shift.proofs.ExactSpeeds.{test-true, test-false}

is-less : {a b : ℤ} → lt_z a b ≡ true → a <ℤ b
is-less e = lt_z_yes (subst T (sym e) tt)

-- c is 10 x 2^32
turn : (c d n s : ℤ) → d *ℤ (c *ℤ (s *ℤ n)) ≡ c *ℤ ((d *ℤ n) *ℤ s)
turn c d n s = simp products

-- t is 10, h is 100
gather : (c t h x : ℤ) → ((c *ℤ t) *ℤ h) *ℤ x ≡ c *ℤ (t *ℤ (x *ℤ h))
gather c t h x = simp products

module _ {side : Ends} (engine : Fraction) (h : Between side (whole side_unit *ᶠ engine)) (speed ndv : ℕ) where
  -- in km/h
  abbrev shift : Fraction
  shift = engine /ᶠ decimal (pos ndv) 100

  den-positive : pos 0 <ℤ engine.den
  den-positive = rw one-mul at h.positive

  -- the two sides of the exact comparison
  abbrev driven : ℤ
  driven = (engine.den *ℤ pos ndv) *ℤ pos speed

  abbrev bracket : ℤ
  bracket = pos 10 *ℤ (engine.num *ℤ pos 100)

  left-turned : engine.den *ℤ left_of speed ndv ≡ pos 42949672960 *ℤ driven
  left-turned = turn (pos 42949672960) engine.den (pos ndv) (pos speed)

  right-turned : side_unit *ℤ engine.num ≡ pos 42949672960 *ℤ bracket
  right-turned = gather (pos 42949672960) (pos 10) (pos 100) engine.num

  pub above-truly : above speed ndv side ≡ true → less shift (exact_speed speed) ≡ true
  above-truly e =
      let k : (engine.den *ℤ side.upper) <ℤ (engine.den *ℤ left_of speed ndv) = mul-mono-< engine.den den-positive (is-less e) in
      let m : (side_unit *ℤ engine.num) ≤ℤ (engine.den *ℤ side.upper) = rw (one-mul engine.den) at h.below in
      test-true {a = bracket} {b = driven} (mul-cancel-< (pos 42949672960) (omega zs) (omega (zs, left-turned, right-turned)))

  pub below-truly : below speed ndv side ≡ true → less (exact_speed speed) shift ≡ true
  below-truly e =
      let k : (engine.den *ℤ left_of speed ndv) <ℤ (engine.den *ℤ side.lower) = mul-mono-< engine.den den-positive (is-less e) in
      let m : (engine.den *ℤ side.lower) ≤ℤ (side_unit *ℤ engine.num) = rw (one-mul engine.den) at h.above in
      test-true {a = driven} {b = bracket} (mul-cancel-< (pos 42949672960) (omega zs) (omega (zs, left-turned, right-turned)))

  -- above and below are the same comparison turned round
  pub agrees : too_close speed ndv side ≡ false → above speed ndv side ≡ less shift (exact_speed speed)
  agrees called = go (above speed ndv side) (below speed ndv side) above-truly below-truly called
    where
      go : (a b : Bool) → (a ≡ true → less shift (exact_speed speed) ≡ true) → (b ≡ true → less (exact_speed speed) shift ≡ true)
          → (not b && not a) ≡ false → a ≡ less shift (exact_speed speed)
      go true b up down e = sym (up refl)
      go false true up down e = sym (test-false {a = bracket} {b = driven} (<-≤ (is-less (down refl))))
      go false false up down e = absurd (true≢false e)
