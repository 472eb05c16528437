-- Places of parts of one width, one after the other. Assumes nothing.
use mathlib.Core.Path.{◌≡◌, refl, sym, ap}
use mathlib.Core.Bool.{Bool, true, false}
use Prim.Native.Nat.{ℕ, ◌+◌, ◌-◌, ◌*◌, ◌/◌, ◌≤◌, ◌<◌}
use native.Mathlib.Nat.{le-div_iff_mul-le}
use native.Mathlib.Decide.{dec_le}
use native.Mathlib.Omega.{arith}
use borrow.Author.Tests.{le-leb, lt-leb, leb-true, leb-false}
use lib.Dec.{leb}

-- the next one
pub next_place : (width i : ℕ) → width * (i + 1) ≡ width * i + width
next_place width i = omega arith

-- so many more
pub places-on : (width i more : ℕ) → width * i ≤ width * (i + more)
places-on width i more =
    let far : width * (i + more) ≡ width * i + width * more = omega arith in
    omega arith

pub places-rise : (width i n : ℕ) → i ≤ n → width * i ≤ width * n
places-rise width i n h =
    let far : i + (n - i) ≡ n = omega arith in
    let same : width * (i + (n - i)) ≡ width * n = ap (λ (m : ℕ). width * m) far in
    let on = places-on width i (n - i) in
    omega arith

-- a block of them
pub block-fits : (width from few count rows : ℕ) → from + few ≤ count → width * count ≤ rows → width * from + width * few ≤ rows
block-fits width from few count rows h room =
    let rise = places-rise width (from + few) count h in
    omega arith

-- as many as fit, or their length
pub fit : (width count rows : ℕ) → 0 < width → leb count (rows / width) ≡ leb (width * count) rows
fit width count rows some = go (leb count (rows / width)) refl
  where
    go : (b : Bool) → leb count (rows / width) ≡ b → b ≡ leb (width * count) rows
    go true e =
        let long : count * width ≤ rows = (le-div_iff_mul-le some).0 (leb-true count (rows / width) e) in
        sym (le-leb (width * count) rows (omega arith))
    go false e = sym (lt-leb (width * count) rows (over (dec_le (width * count) rows)))
      where
        over : Dec (width * count ≤ rows) → rows < width * count
        over (yes long) =
            let fits : count ≤ rows / width = (le-div_iff_mul-le some).1 (let same : count * width ≤ rows = omega arith in same) in
            let less = leb-false count (rows / width) e in
            omega arith
        over (no short) = omega arith
