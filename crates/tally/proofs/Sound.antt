-- Ends are not faulty exactly where they are in range and in order. Assumes nothing.
use mathlib.Core.Path.{◌≡◌, refl, subst}
use mathlib.Core.Bool.{Bool, true, false, ◌||◌}
use Prim.Native.Nat.{◌≤◌}
use lib.Dec.{T}
use lib.IntN.{ℤ, pos, nat_abs}
use lib.Signed.{lt_z, ◌≤ℤ◌, clash_ℤ}
use Rattle.arith.specs.declared.Ends.{Ends}
use Rattle.arith.specs.Fitting.{Sized}
use Rattle.arith.proofs.Parts.{zs}
use Rattle.arith.proofs.Machine.{lt-true, lt-false}
use Rattle.arith.proofs.Size.{abs-parts}
use Rattle.tally.specs.Entries.{most_end, least_end, beyond, faulty_ends}

pub neither : (s t : Bool) → (s || t) ≡ false → (s ≡ false) × (t ≡ false)
neither false t e = (refl, e)
neither true t e = absurd (subst T e tt)

within : (n : ℤ) → beyond n ≡ false → nat_abs n ≤ most_end
within n e =
    let h = neither (lt_z n least_end) (lt_z (pos most_end) n) e in
    let low = lt-false {a = n} {b = least_end} h.0 in
    let high = lt-false {a = pos most_end} {b = n} h.1 in
    omega (zs, abs-parts n)

pub sound-ends : (e : Ends) → faulty_ends e ≡ false → Sized most_end e × (e.lower ≤ℤ e.upper)
unfolding faulty_ends
sound-ends e f =
    let h = neither (lt_z e.upper e.lower) (beyond e.lower || beyond e.upper) f in
    let k = neither (beyond e.lower) (beyond e.upper) h.1 in
    (record { lower = within e.lower k.0; upper = within e.upper k.1 }, lt-false {a = e.upper} {b = e.lower} h.0)

not-below : {a b : ℤ} → b ≤ℤ a → lt_z a b ≡ false
not-below {a} {b} h = go (lt_z a b) refl
  where
    go : (t : Bool) → lt_z a b ≡ t → t ≡ false
    go true e = clash_ℤ (lt-true e) h
    go false e = refl

not_beyond : (n : ℤ) → nat_abs n ≤ most_end → beyond n ≡ false
not_beyond n h =
    let low : least_end ≤ℤ n = omega (zs, abs-parts n) in
    let high : n ≤ℤ pos most_end = omega (zs, abs-parts n) in
    rw (not-below low, not-below high)

pub taken-ends : (e : Ends) → Sized most_end e → e.lower ≤ℤ e.upper → faulty_ends e ≡ false
unfolding faulty_ends
taken-ends e size order = rw (not-below order, not_beyond e.lower size.lower, not_beyond e.upper size.upper)
