-- A 32-bit float's pattern taken apart: a bit for the sign, eight for the exponent, 23 for the significand (IEEE 754, 3.4, binary32).
use Rattle.std.specs.Prelude.{ℕ, ◌+◌, ◌/◌, ◌%◌, ◌^◌, Bool, cond, pos, ltb, eqb}
use Rattle.arith.specs.declared.Ends.{Ends}
use Rattle.arith.specs.Fraction.{Fraction}
use Rattle.reading.specs.declared.Binary.{Binary}

abbrev pub exponent_field : ℕ → ℕ
exponent_field bits = bits % 2 ^ 31 / 2 ^ 23

abbrev pub trailing : ℕ → ℕ
trailing bits = bits % 2 ^ 23

-- where the exponent's field is 0 the leading digit is lacking, and the exponent is 1
abbrev pub apart : Bool → Bool → ℕ → ℕ → Binary
apart denormal negative exponent trailing =
    cond denormal
    (record { negative = negative; exponent = 1; significand = trailing })
    (record { negative = negative; exponent = exponent; significand = trailing + 2 ^ 23 })

-- 2³¹ is the pattern of minus zero, which is not below zero
unfoldable pub binary_of : ℕ → Binary
binary_of bits = apart (eqb (exponent_field bits) 0) (ltb (2 ^ 31) bits) (exponent_field bits) (trailing bits)

-- n with so many binary places
abbrev pub over : ℕ → ℕ → Fraction
over n places = record { num = pos n; den = pos (2 ^ places) }

-- the ends of a number with this whole part and, where it is not 0, a rest
unfoldable pub with_rest : ℕ → ℕ → Ends
with_rest whole rest = record { lower = pos whole; upper = pos (cond (eqb rest 0) whole (whole + 1)) }
