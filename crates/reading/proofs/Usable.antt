-- What a usable reading is known to be: ends at most one unit apart, from 0 to 16,777,216, with the float's exact value between them. Assumes
-- nothing.
use mathlib.Core.Path.{◌≡◌, refl}
use Prim.Native.Nat.{ℕ}
use mathlib.Core.Bool.{Bool, true, false, cond, false≢true}
use lib.IntN.{pos, *ℤ-zero}
use lib.Signed.{◌≤ℤ◌, ◌<ℤ◌, le_z, lt_z}
use lib.Ieee.{Float, nan, inf, fin}
use lib.Ieee.Fits.{down_pos}
use Rattle.arith.specs.declared.Ends.{Ends}
use Rattle.arith.specs.Fraction.{Fraction, Between}
use Rattle.arith.specs.Fitting.{Narrow}
use Rattle.arith.proofs.Parts.{zs}
use Rattle.arith.proofs.Machine.{lt-false, le-true}
use Rattle.arith.proofs.Rounding.{down_le, down-max, up-ge, down-up, up-down}
use Rattle.reading.specs.declared.Message.{Message}
use Rattle.reading.specs.declared.Message.TheVariants.{Ppm, Percent, OverRange, NotFitted}
use Rattle.std.specs.Prelude.{None, Some}
use Rattle.reading.specs.Units.{Exact, value, exact_value, times, exact_units, outward, most_units, rounded, units_of}

pub record Usable (x : Exact) (e : Ends) : Type 0 where
  pub exact : Fraction
  pub is : x ≡ value exact
  pub holds : Between e exact
  pub least : pos 0 ≤ℤ e.lower
  pub limit : e.upper ≤ℤ pos most_units
  pub narrow : Narrow 1 e

same_units : {a b : Ends} → Some a ≡ Some b → a ≡ b
same_units p = cc

-- a fraction that passed both tests
module _ (q : Fraction) (p : pos 0 <ℤ q.den) where
  passed : pos 0 ≤ℤ q.num → (outward q).upper ≤ℤ pos most_units → Usable (value q) (outward q)
  unfolding outward
  passed h l =
      record {
        exact = q;
        is = refl;
        holds = record { positive = p; above = down_le q.num q.den p; below = up-ge q.num q.den p };
        least = down-max q.num q.den (pos 0) p (rw *ℤ-zero h);
        limit = l;
        narrow = record { ordered = down-up q.num q.den p; apart = up-down q.num q.den p };
      }

  at-fraction : {e : Ends} → rounded (value q) ≡ Some e → Usable (value q) e
  at-fraction {e} h = go (lt_z q.num (pos 0)) (le_z (outward q).upper (pos most_units)) refl refl h
    where
      go : (t u : Bool) → lt_z q.num (pos 0) ≡ t → le_z (outward q).upper (pos most_units) ≡ u →
          cond t None (cond u (Some (outward q)) None) ≡ Some e → Usable (value q) e
      go true u x y h = absurd (false≢true (cc))
      go false true x y h = rw (← same_units h) (passed (lt-false x) (le-true y))
      go false false x y h = absurd (false≢true (cc))

at-float : (k : ℕ) (x : Float) {e : Ends} → rounded (times (pos k) (exact_value x)) ≡ Some e → Usable (times (pos k) (exact_value x)) e
at-float k nan h = absurd (false≢true (cc))
at-float k (inf s) h = absurd (false≢true (cc))
at-float k (fin s m e) h = at-fraction _ (let d = down_pos e in omega zs) h

pub usable : (message : Message) {e : Ends} → units_of message ≡ Some e → Usable (exact_units message) e
unfolding units_of
usable (Ppm x) h = at-float 256 x h
usable (Percent x) h = at-float 2560000 x h
usable OverRange h = absurd (false≢true (cc))
usable NotFitted h = absurd (false≢true (cc))
