-- Signed division by a positive number, rounded down and rounded up (01, What the core covers: "one arithmetic layer").
use Rattle.std.specs.Prelude.{◌/◌, ℤ, pos, negsuc, neg_ℤ, nat_abs}

-- the largest whole number at or below n / d; negsuc a is −(a + 1)
unfoldable pub div_down : ℤ → ℤ → ℤ
div_down (pos a) d = pos (a / nat_abs d)
div_down (negsuc a) d = negsuc (a / nat_abs d)

-- the smallest whole number at or above n / d
unfoldable pub div_up : ℤ → ℤ → ℤ
div_up n d = neg_ℤ (div_down (neg_ℤ n) d)
