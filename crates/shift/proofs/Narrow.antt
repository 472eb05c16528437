-- How far apart the ends of the exponential are, and those of the two sides: no term's ends are more than two apart, and the 24th term is at most one unit. Assumes nothing.
use mathlib.Core.Path.{◌≡◌, refl}
use mathlib.Core.Bool.{Bool, true, false, cond}
use Prim.Native.Nat.{ℕ, zero, suc, ◌+◌, ◌-◌, ◌*◌, ◌%◌, ◌≤◌, ◌<◌}
use native.Mathlib.Nat.{mul-le-mul_right, le_refl}
use native.Mathlib.Omega.{arith}
use lib.Dec.{eqb}
use lib.IntN.{pos, nat_abs, ◌+ℤ◌, ◌*ℤ◌}
use Rattle.arith.specs.declared.Ends.{Ends}
use Rattle.arith.specs.Stages.{sum_of, difference_of}
use Rattle.arith.specs.Fitting.{Narrow}
use Rattle.arith.proofs.Parts.{zs, add_parts}
use Rattle.arith.proofs.Size.{abs-parts}
use Rattle.arith.proofs.Width.{exactly-narrow, wider-narrow, sum-narrow, difference-narrow, divided-narrow, scaled-narrow}
use Rattle.vehicle.specs.declared.VehicleSheet.{VehicleSheet}
use Rattle.vehicle.specs.Sheet.{Sound}
use Rattle.shift.specs.Exponential.{next_term, term_of, with_term, sum_to, exponential_of, Exponent}
use Rattle.shift.specs.Speeds.{share, side_unit, side_of, higher_part, first_side, higher_side}
use Rattle.shift.proofs.Terms.{last-size}
use Rattle.shift.proofs.ExactTerms.{exponential-ordered}
use Rattle.shift.proofs.Sides.{exponent}

-- a term of width w, where x w / k is at most q
next-narrow : {w q : ℕ} {a : Ends} (over under k : ℕ) → 0 < under → over * w ≤ under * suc k * q → Narrow w a → Narrow (suc q) (next_term over under a (suc k))
unfolding next_term
next-narrow over under k some h n =
    divided-narrow (under * suc k) (omega (arith, mul-le-mul_right (suc k) some)) (wider-narrow h (scaled-narrow (pos over) (le_refl over) n))

with-narrow : {w v : ℕ} {a b : Ends} (k : ℕ) → Narrow w a → Narrow v b → Narrow (w + v) (with_term a b k)
unfolding with_term
with-narrow {w} {v} {a} {b} k h j = go (eqb (k % 2) 0)
  where
    go : (even : Bool) → Narrow (w + v) (cond even (sum_of a b) (difference_of a b))
    go true = sum-narrow h j
    go false = difference-narrow h j

module _ {over under : ℕ} (x : Exponent over under) where
  first-narrow : Narrow 1 (term_of over under 1)
  unfolding term_of
  first-narrow = next-narrow {q = 0} over under 0 x.some (omega arith) (exactly-narrow (pos 4294967296))

  term-narrow : (k : ℕ) → Narrow 2 (term_of over under (suc k))
  unfolding term_of
  term-narrow zero = wider-narrow (omega arith) first-narrow
  term-narrow (suc zero) = next-narrow {q = 1} over under 1 x.some (omega (arith, x.mild)) first-narrow
  term-narrow (suc (suc k)) = next-narrow {q = 1} over under (suc (suc k)) x.some (omega (arith, x.mild)) (term-narrow (suc k))

  sum-to-narrow : (k : ℕ) → Narrow (2 * k) (sum_to over under k)
  unfolding sum_to term_of
  sum-to-narrow zero = exactly-narrow (pos 4294967296)
  sum-to-narrow (suc k) = wider-narrow (omega arith) (with-narrow (suc k) (sum-to-narrow k) (term-narrow k))

  -- the upper end has one term more
  last-upper : (sum_to over under 24).upper ≡ (sum_to over under 23).upper +ℤ (term_of over under 24).upper
  unfolding sum_to with_term sum_of
  last-upper = refl

  pub exponential-narrow : Narrow 47 (exponential_of over under)
  unfolding exponential_of
  exponential-narrow =
      let e = sum_to over under 23 in
      let t = (term_of over under 24).upper in
      let h = (sum-to-narrow 23).apart in
      let last : nat_abs t ≤ 1 = (last-size x).upper in
      record {
        ordered = exponential-ordered over under x.some;
        apart = rw last-upper (omega (zs, abs-parts t, add_parts e.lower (pos 46), add_parts e.lower (pos 47), add_parts e.upper t));
      }

-- ---- of an accepted sheet
-- 47 units of e, times 5,753, times s - n of at most 20,000
abbrev pub width : ℕ
width = 20000 * (share * 47)

module _ {v : VehicleSheet} (sound : Sound v) where
  part-narrow : Narrow (share * 47) (higher_part v)
  part-narrow = scaled-narrow (pos share) (le_refl share) (exponential-narrow (exponent sound))

  side-narrow : {part : Ends} → Narrow (share * 47) part → Narrow width (side_of part (v.rated - v.idle) v.idle)
  unfolding side_of
  side-narrow {part} h =
      let span : v.rated - v.idle ≤ 20000 = let r = sound.ranged.rated in omega arith in
      wider-narrow {w = 20000 * (share * 47) + 0} (omega arith) (sum-narrow (scaled-narrow (pos (v.rated - v.idle)) span h) (exactly-narrow (side_unit *ℤ pos v.idle)))

  pub higher-side-narrow : Narrow width (higher_side v)
  unfolding higher_side
  higher-side-narrow = side-narrow part-narrow

  pub first-side-narrow : Narrow width (first_side v)
  unfolding first_side
  first-side-narrow = side-narrow (wider-narrow {w = share * 47 + 0} (omega arith) (difference-narrow part-narrow (exactly-narrow (pos 4294967296000))))
