-- No side is more than 60,000 tenths, and a number is handed on as its bits.
use Rattle.std.proofs.Common.{◌≡◌, ◌≤◌, ◌<◌, ◌^◌, ℕ, ℤ, pos, nat_abs, ◌+ℤ◌, ◌≤ℤ◌, to_z, of_z, w64, SFits, rules}
use Rattle.std.proofs.lemmas.Int.{to_z-of_z}
use lib.Signed.{mag}
use Rattle.arith.specs.declared.Ends.{Ends}
use Rattle.arith.specs.Fitting.{Sized}
use Rattle.arith.specs.Rounding.{div_down, div_up}
use Rattle.arith.proofs.Parts.{zs, add_parts}
use Rattle.arith.proofs.Machine.{zs64, handed}
use Rattle.arith.proofs.Size.{abs-parts}
use Rattle.shift.specs.Accepted.{largest_side}
use Rattle.tenths.specs.Least.{tenth, least_of}
use Rattle.tenths.proofs.Sizes.{under-most, upon-most}
use Rattle.tenths.proofs.least.Goals as goal

-- ---- over whole numbers
next-most : (q : ℤ) → nat_abs q ≤ 60000 → (q +ℤ pos 1) ≤ℤ pos 65535
next-most q h = omega (zs, abs-parts q, add_parts q (pos 1))

next_fits : (q : ℤ) → nat_abs q ≤ 60000 → SFits w64 (q +ℤ pos 1)
next_fits q h = omega (zs64, abs-parts q, add_parts q (pos 1))

most : (q : ℤ) → nat_abs q ≤ 60000 → q ≤ℤ pos 65535
most q h = omega (zs, abs-parts q)

-- ---- a side over a tenth, read back from the bits
read : (f : ℤ → ℤ → ℤ) (ndv : ℕ) {side unit q : ℤ} → mag unit < 2 ^ 63 → unit ≡ tenth ndv → mag q < 2 ^ 63
    → q ≡ f (to_z w64 (of_z w64 side)) (to_z w64 (of_z w64 unit)) → SFits w64 side → to_z w64 (of_z w64 q) ≡ f side (tenth ndv)
read f ndv {side} {unit} {q} room is small e fits = handed q small (rw (to_z-of_z w64 side fits, handed unit room is) at e)

under-few : (ndv : ℕ) (side : ℤ) {unit q : ℤ} → mag unit < 2 ^ 63 → unit ≡ tenth ndv → mag q < 2 ^ 63 → q ≡ div_down side (to_z w64 (of_z w64 unit))
    → nat_abs side ≤ largest_side → 1000 ≤ ndv → nat_abs (to_z w64 (of_z w64 q)) ≤ 60000
under-few ndv side {unit} {q} room is small e low some =
    rw (handed q small (rw (handed unit room is) at e)) (under-most {side = record { lower = side; upper = side }} (record { lower = low; upper = low }) some)

upon-few : (ndv : ℕ) (side : ℤ) {unit q : ℤ} → mag unit < 2 ^ 63 → unit ≡ tenth ndv → mag q < 2 ^ 63 → q ≡ div_up side (to_z w64 (of_z w64 unit))
    → nat_abs side ≤ largest_side → 1000 ≤ ndv → nat_abs (to_z w64 (of_z w64 q)) ≤ 60000
upon-few ndv side {unit} {q} room is small e low some =
    rw (handed q small (rw (handed unit room is) at e)) (upon-most {side = record { lower = side; upper = side }} (record { lower = low; upper = low }) some)

-- either end of a side
lower-low : (side : Ends) → Sized largest_side side → SFits w64 side.lower → nat_abs (to_z w64 (of_z w64 side.lower)) ≤ largest_side
lower-low side size fits = rw (to_z-of_z w64 side.lower fits) size.lower

upper-low : (side : Ends) → Sized largest_side side → SFits w64 side.upper → nat_abs (to_z w64 (of_z w64 side.upper)) ≤ largest_side
upper-low side size fits = rw (to_z-of_z w64 side.upper fits) size.upper

pub overflow_add-under : goal.overflow_add-under
overflow_add-under c =
    let lower = lower-low c.args.side c.requires.0 (search rules) in
    let upper = upper-low c.args.side c.requires.0 (search rules) in
    let few =
    under-few c.args.ndv _ c.tenth-unit.type_inv c.tenth-unit.ensures c.div_down-under.type_inv c.div_down-under.ensures (search (lower, upper)) c.requires.1 in
    next_fits (to_z w64 (of_z w64 c.div_down-under.result)) few

pub from_zero-requires : goal.from_zero-requires
from_zero-requires c =
    let lower = lower-low c.args.side c.requires.0 (search rules) in
    let upper = upper-low c.args.side c.requires.0 (search rules) in
    let q = to_z w64 (of_z w64 c.div_down-under.result) in
    let few : nat_abs q ≤ 60000 =
    under-few c.args.ndv _ c.tenth-unit.type_inv c.tenth-unit.ensures c.div_down-under.type_inv c.div_down-under.ensures (search (lower, upper)) c.requires.1 in
    simp (to_z-of_z w64 (q +ℤ pos 1) (next_fits q few)) (next-most q few)

pub from_zero-requires-2 : goal.from_zero-requires-2
from_zero-requires-2 c =
    let lower = lower-low c.args.side c.requires.0 (search rules) in
    let upper = upper-low c.args.side c.requires.0 (search rules) in
    let few =
    upon-few c.args.ndv _ c.tenth-unit.type_inv c.tenth-unit.ensures c.div_up-upon.type_inv c.div_up-upon.ensures (search (lower, upper)) c.requires.1 in
    most (to_z w64 (of_z w64 c.div_up-upon.result)) few

pub returns : goal.returns
unfolding least_of
returns c =
    let a = c.args in
    let size = c.requires.0 in
    let under : to_z w64 (of_z w64 c.div_down-under.result) ≡ div_down a.side.upper (tenth a.ndv) =
    read div_down a.ndv c.tenth-unit.type_inv c.tenth-unit.ensures c.div_down-under.type_inv c.div_down-under.ensures (search rules) in
    let upon : to_z w64 (of_z w64 c.div_up-upon.result) ≡ div_up a.side.lower (tenth a.ndv) =
    read div_up a.ndv c.tenth-unit.type_inv c.tenth-unit.ensures c.div_up-upon.type_inv c.div_up-upon.ensures (search rules) in
    let q = div_down a.side.upper (tenth a.ndv) in
    let few = under-most size c.requires.1 in
    simp (c.from_zero-2.ensures, c.from_zero.ensures, under, upon, to_z-of_z w64 (q +ℤ pos 1) (next_fits q few))
