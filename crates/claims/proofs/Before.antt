-- What M-104 leaves as it was: a message of a whole number of units has the reading of before, and a test of such messages the answer of before; and
-- where both readings are usable the new ends hold the old number. Assumes nothing.
use mathlib.Core.Path.{◌≡◌, refl, sym, ap, ◌∙◌}
use mathlib.Core.Bool.{Bool, true, false, cond, false≢true}
use Prim.Native.Nat.{ℕ, ◌*◌}
use lib.IntN.{ℤ, pos, ◌+ℤ◌, ◌*ℤ◌}
use lib.Signed.{◌≤ℤ◌, ◌<ℤ◌, lt_z, le_z}
use lib.Dec.{eqb}
use borrow.Author.Tests.{eqb-true}
use lib.Ieee.{Float, nan, inf, fin, down}
use lib.Ieee.Fits.{down_pos}
use Rattle.arith.specs.declared.Ends.{Ends}
use Rattle.arith.specs.Rounding.{div_down, div_up}
use Rattle.arith.specs.Stages.{exactly}
use Rattle.arith.specs.Fraction.{Fraction}
use Rattle.arith.proofs.Parts.{zs, add_parts, mul-parts}
use Rattle.arith.proofs.Ring.{mul-add, mul_assoc, mul-one, mul-cancel-<}
use Rattle.arith.proofs.Rounding.{down_le, down-max, down-whole, up-ge, up-whole, same_ends}
use Rattle.reading.specs.declared.Message.{Message}
use Rattle.reading.specs.declared.Message.TheVariants.{Ppm, Percent, OverRange, NotFitted}
use Rattle.std.specs.Prelude.{None, Ok, Some}
use Rattle.reading.specs.Units.{Exact, value, none, exact_value, times, exact_units, outward, most_units, up_to_limit, rounded, units_of}
use Rattle.refusal.specs.declared.Gas.{Gas}
use Rattle.refusal.specs.declared.Gas.TheVariants.{HC, CO, NOx, CO2, NMHC}
use Rattle.bag.specs.Gas.{is_nmhc, message_at}
use Rattle.bag.specs.declared.Part.{Part}
use Rattle.bag.specs.declared.BagSheet.{BagSheet}
use Rattle.sides.specs.Gases.{nothing}
use Rattle.sides.specs.ReadIn.{read_gas, worth_of, gas_of, read_part, read_third, read_in}
use Rattle.emission.specs.Test.{test_answer}
use Rattle.claims.specs.Before.{nearest, rounded_before, units_before, worth_before, gas_before, part_before, third_before, read_before, answer_before}
use Rattle.claims.specs.Before.{WholeUnits, WholePart, WholeTest, HoldsEnds}
use Rattle.claims.proofs.Readings.{no_value}

-- ---- the nearest whole number of n / d
module _ (n d : ℤ) (p : pos 0 <ℤ d) where
  abbrev doubled : ℤ
  doubled = pos 2 *ℤ n +ℤ d *ℤ pos 1

  twice : (u : ℤ) → (pos 2 *ℤ d) *ℤ u ≡ pos 2 *ℤ (d *ℤ u)
  twice u = mul_assoc (pos 2) d u

  positive : pos 0 <ℤ (pos 2 *ℤ d)
  positive = omega (zs, mul-parts (pos 2) d)

  -- between the ends
  nearest-above : div_down n d ≤ℤ div_down doubled (pos 2 *ℤ d)
  nearest-above =
      let l = d *ℤ div_down n d in
      let h : l ≤ℤ n = down_le n d p in
      down-max doubled (pos 2 *ℤ d) (div_down n d) positive
      (rw twice (omega (zs, mul-parts (pos 2) l, mul-parts (pos 2) n, mul-one d, add_parts (pos 2 *ℤ n) (d *ℤ pos 1))))

  nearest-below : div_down doubled (pos 2 *ℤ d) ≤ℤ div_up n d
  nearest-below =
      let u = div_up n d in
      let h : n ≤ℤ (d *ℤ u) = up-ge n d p in
      let low = down_le doubled (pos 2 *ℤ d) positive in
      let next : (pos 2 *ℤ d) *ℤ (u +ℤ pos 1) ≡ pos 2 *ℤ (d *ℤ u) +ℤ pos 2 *ℤ d = mul-add (pos 2 *ℤ d) u (pos 1) ∙ rw (twice, mul-one) in
      let k : div_down doubled (pos 2 *ℤ d) <ℤ (u +ℤ pos 1) =
      mul-cancel-< (pos 2 *ℤ d) positive
      (rw next
      (omega (
        zs,
        low,
        mul-parts (pos 2) (d *ℤ u),
        mul-parts (pos 2) n,
        mul-parts (pos 2) d,
        mul-one d,
        add_parts (pos 2 *ℤ n) (d *ℤ pos 1),
        add_parts (pos 2 *ℤ (d *ℤ u)) (pos 2 *ℤ d),
      ))) in
      omega (zs, add_parts u (pos 1))

  -- a whole number is its own nearest
  whole-nearest : (u : ℤ) → n ≡ d *ℤ u → div_down doubled (pos 2 *ℤ d) ≡ u
  whole-nearest u e =
      let a : div_down n d ≤ℤ div_down doubled (pos 2 *ℤ d) = nearest-above in
      let b : div_down doubled (pos 2 *ℤ d) ≤ℤ div_up n d = nearest-below in
      omega (zs, down-whole n d u p e, up-whole n d u p e)

-- ---- a message's value is over a positive number
float-den : (k : ℕ) (x : Float) {q : Fraction} → times (pos k) (exact_value x) ≡ value q → pos 0 <ℤ q.den
float-den k nan e = absurd (no_value e)
float-den k (inf s) e = absurd (no_value e)
float-den k (fin s m x) {q} e =
    let same : pos (down x * 1) ≡ q.den = cc in
    let some = down_pos x in
    rw (← same) (omega zs)

den-positive : (message : Message) {q : Fraction} → exact_units message ≡ value q → pos 0 <ℤ q.den
den-positive (Ppm x) e = float-den 256 x e
den-positive (Percent x) e = float-den 2560000 x e
den-positive OverRange e = absurd (no_value e)
den-positive NotFitted e = absurd (no_value e)

-- ---- readings
whole-rounded : (q : Fraction) (u : ℤ) → pos 0 <ℤ q.den → q.num ≡ q.den *ℤ u → rounded (value q) ≡ rounded_before (value q)
unfolding exactly outward
whole-rounded q u p e =
    let n = q.num in
    let d = q.den in
    ap (λ (x : Ends). cond (lt_z n (pos 0)) None (up_to_limit x))
    (same_ends (down-whole n d u p e ∙ sym (whole-nearest n d p u e)) (up-whole n d u p e ∙ sym (whole-nearest n d p u e)))

pub whole-as-before : (message : Message) → WholeUnits message → units_of message ≡ units_before message
unfolding units_of units_before
whole-as-before message w = rw w.is (whole-rounded w.exact w.units (den-positive message w.is) w.whole)

-- what a usable reading is
usable-is : (b : Bool) (a : Ends) {e : Ends} → cond b None (up_to_limit a) ≡ Some e → a ≡ e
usable-is true a h = absurd (false≢true (cc))
usable-is false a {e} h = go (le_z a.upper (pos most_units)) h
  where
    go : (t : Bool) → cond t (Some a) None ≡ Some e → a ≡ e
    go true h = cc
    go false h = absurd (false≢true (cc))

held : (x : Exact) {e f : Ends} → ((q : Fraction) → x ≡ value q → pos 0 <ℤ q.den) →
    rounded x ≡ Some e → rounded_before x ≡ Some f → HoldsEnds e f
unfolding exactly outward
held none p h i = absurd (false≢true (cc))
held (value q) p h i =
    let new = usable-is (lt_z q.num (pos 0)) (outward q) h in
    let old = usable-is (lt_z q.num (pos 0)) (exactly (nearest q)) i in
    rw (← new, ← old)
    (record { lower = nearest-above q.num q.den (p q refl); upper = nearest-below q.num q.den (p q refl) })

pub before-held : (message : Message) {e f : Ends} → units_of message ≡ Some e → units_before message ≡ Some f → HoldsEnds e f
unfolding units_of units_before
before-held message h i = held (exact_units message) (λ q e. den-positive message e) h i

-- ---- a whole test
worth-as-before : (gas : Gas) (message : Message) → (is_nmhc gas ≡ false → WholeUnits message) → worth_of gas message ≡ worth_before gas message
worth-as-before gas message w = go (is_nmhc gas) refl w
  where
    go : (fifth : Bool) → is_nmhc gas ≡ fifth → (fifth ≡ false → WholeUnits message) → worth_of gas message ≡ worth_before gas message
    go true e w = rw e
    go false e w = rw e (whole-as-before message (w refl))

gas-as-before : (part : ℕ) (p : Part) → WholePart p → (gas : Gas) → gas_of part p gas ≡ gas_before part p gas
gas-as-before part p w gas = λ i. read_gas part gas (worth-as-before gas (message_at gas p.bag) (w.bag gas) i) (worth-as-before gas (message_at gas p.air) (w.air gas) i)

part-as-before : (part : ℕ) (p : Part) → WholePart p → read_part part p ≡ part_before part p
unfolding read_part part_before
part-as-before part p w = let same = gas-as-before part p w in rw (same HC, same CO, same NOx, same CO2, same NMHC)

third-as-before : (class : ℕ) (third : Part) → (class ≡ 3 → WholePart third) → read_third class third ≡ third_before class third
unfolding read_third third_before
third-as-before class third w = go (eqb class 3) (eqb-true class 3)
  where
    go : (b : Bool) → (b ≡ true → class ≡ 3) →
        cond b (read_part 3 third) (Ok (record { bag = nothing; air = nothing }))
        ≡ cond b (part_before 3 third) (Ok (record { bag = nothing; air = nothing }))
    go true f = part-as-before 3 third (w (f refl))
    go false f = refl

pub test-as-before : (s : BagSheet) → WholeTest s → test_answer s ≡ answer_before s
unfolding test_answer answer_before read_in read_before
test-as-before s w =
    rw (part-as-before 1 s.first w.first, part-as-before 2 s.second w.second, third-as-before s.class s.third w.third)
