-- What `divDown` and `divUp` are, by their laws. Assumes nothing.
use mathlib.Core.Path.{◌≡◌, sym}
use mathlib.Core.Logic.{⊎_elim}
use Prim.Native.Nat.{◌/◌, ◌<◌}
use native.Mathlib.Nat.{mul-div-le, lt-mul-div-succ}
use lib.IntN.{ℤ, pos, negsuc, neg_ℤ, ◌+ℤ◌, ◌-ℤ◌, ◌*ℤ◌}
use lib.Signed.{◌≤ℤ◌, ◌<ℤ◌}
use Rattle.arith.proofs.Parts.{zs, add_parts, neg-parts, sub_parts, mul-parts}
use Rattle.arith.proofs.Ring.{times, mul-add, mul-sub, mul_left_comm, mul-neg, mul-one, mul_mono, mul-mono-<, mul-cancel, mul-cancel-<}
use Rattle.arith.proofs.Ring.{≤_trans, <-≤, ≤-or-<}
use Rattle.arith.specs.declared.Ends.{Ends}
use Rattle.arith.specs.Rounding.{div_down, div_up}

le-lt : {a b c : ℤ} → a ≤ℤ b → b <ℤ c → a <ℤ c
le-lt h k = omega zs

lt-le : {a b c : ℤ} → a <ℤ b → b ≤ℤ c → a <ℤ c
lt-le h k = omega zs

pub down_le : (n d : ℤ) → pos 0 <ℤ d → (d *ℤ div_down n d) ≤ℤ n
unfolding div_down
down_le (pos a) (pos d) p = omega (zs, mul-div-le a d)
down_le (negsuc a) (pos d) p = let h : 0 < d = omega zs in omega (zs, mul-parts (pos d) (negsuc (a / d)), lt-mul-div-succ a h)
down_le n (negsuc d) p = absurd p.lt

pub down_lt : (n d : ℤ) → pos 0 <ℤ d → n <ℤ (d *ℤ (div_down n d +ℤ pos 1))
unfolding div_down
down_lt (pos a) (pos d) p = let h : 0 < d = omega zs in omega (zs, lt-mul-div-succ a h)
down_lt (negsuc a) (pos d) p =
    omega (zs, mul-parts (pos d) (negsuc (a / d) +ℤ pos 1), mul-div-le a d, times d (add_parts (negsuc (a / d)) (pos 1)))
down_lt n (negsuc d) p = absurd p.lt

-- the largest q with d·q ≤ n
pub down-max : (n d q : ℤ) → pos 0 <ℤ d → (d *ℤ q) ≤ℤ n → q ≤ℤ div_down n d
down-max n d q p h =
    let k : q <ℤ (div_down n d +ℤ pos 1) = mul-cancel-< d p (le-lt h (down_lt n d p)) in
    omega (zs, add_parts (div_down n d) (pos 1))

-- and the only one whose next multiple is past n
pub down-unique : (n d q : ℤ) → pos 0 <ℤ d → (d *ℤ q) ≤ℤ n → n <ℤ (d *ℤ (q +ℤ pos 1)) → q ≡ div_down n d
down-unique n d q p h k =
    let a = down-max n d q p h in
    let b : div_down n d <ℤ (q +ℤ pos 1) = mul-cancel-< d p (le-lt (down_le n d p) k) in
    omega (zs, add_parts q (pos 1))

pub down-mono : {n m : ℤ} (d : ℤ) → pos 0 <ℤ d → n ≤ℤ m → div_down n d ≤ℤ div_down m d
down-mono {n} {m} d p h = down-max m d (div_down n d) p (≤_trans (down_le n d p) h)

-- ---- rounded up
pub up-ge : (n d : ℤ) → pos 0 <ℤ d → n ≤ℤ (d *ℤ div_up n d)
unfolding div_up
up-ge n d p =
    let h = down_le (neg_ℤ n) d p in
    omega (zs, mul-neg d (div_down (neg_ℤ n) d), neg-parts n, neg-parts (d *ℤ div_down (neg_ℤ n) d))

pub up-min : (n d q : ℤ) → pos 0 <ℤ d → n ≤ℤ (d *ℤ q) → div_up n d ≤ℤ q
unfolding div_up
up-min n d q p h =
    let k : (d *ℤ neg_ℤ q) ≤ℤ neg_ℤ n = omega (zs, mul-neg d q, neg-parts n, neg-parts (d *ℤ q)) in
    let m = down-max (neg_ℤ n) d (neg_ℤ q) p k in
    omega (zs, neg-parts q, neg-parts (div_down (neg_ℤ n) d))

pub up-mono : {n m : ℤ} (d : ℤ) → pos 0 <ℤ d → n ≤ℤ m → div_up n d ≤ℤ div_up m d
up-mono {n} {m} d p h = up-min n d (div_up m d) p (≤_trans h (up-ge m d p))

pub up_lt : (n d : ℤ) → pos 0 <ℤ d → (d *ℤ (div_up n d -ℤ pos 1)) <ℤ n
up_lt n d p = ⊎_elim (λ h. absurd (past (up-min n d (div_up n d -ℤ pos 1) p h))) (λ h. h) (≤-or-< n (d *ℤ (div_up n d -ℤ pos 1)))
  where
    past : {u : ℤ} → u ≤ℤ (u -ℤ pos 1) → ⊥
    past {u} h = omega (zs, sub_parts u (pos 1))

pub up-unique : (n d q : ℤ) → pos 0 <ℤ d → n ≤ℤ (d *ℤ q) → (d *ℤ (q -ℤ pos 1)) <ℤ n → q ≡ div_up n d
up-unique n d q p h k =
    let a = up-min n d q p h in
    let b : (q -ℤ pos 1) <ℤ div_up n d = mul-cancel-< d p (lt-le k (up-ge n d p)) in
    omega (zs, sub_parts q (pos 1))

-- ---- the two together
pub down-up : (n d : ℤ) → pos 0 <ℤ d → div_down n d ≤ℤ div_up n d
down-up n d p = mul-cancel d p (≤_trans (down_le n d p) (up-ge n d p))

pub up-down : (n d : ℤ) → pos 0 <ℤ d → div_up n d ≤ℤ (div_down n d +ℤ pos 1)
up-down n d p = up-min n d (div_down n d +ℤ pos 1) p (<-≤ (down_lt n d p))

-- a whole quotient is both
module _ (n d q : ℤ) (p : pos 0 <ℤ d) (e : n ≡ d *ℤ q) where
  pub down-whole : div_down n d ≡ q
  down-whole = sym (down-unique n d q p (omega zs) (rw mul-add (omega (zs, mul-one d, add_parts (d *ℤ q) (d *ℤ pos 1)))))

  pub up-whole : div_up n d ≡ q
  up-whole = sym (up-unique n d q p (omega zs) (rw mul-sub (omega (zs, mul-one d, sub_parts (d *ℤ q) (d *ℤ pos 1)))))

-- equal fractions round alike
module _ (n d a c : ℤ) (p : pos 0 <ℤ d) (q : pos 0 <ℤ c) (e : c *ℤ n ≡ d *ℤ a) where
  pub down-same : div_down n d ≡ div_down a c
  down-same =
      down-unique a c (div_down n d) q
      (mul-cancel d p (rw (mul_left_comm d c (div_down n d), ← e) (mul_mono c (<-≤ q) (down_le n d p))))
      (mul-cancel-< d p (rw (mul_left_comm d c (div_down n d +ℤ pos 1), ← e) (mul-mono-< c q (down_lt n d p))))

  pub up_same : div_up n d ≡ div_up a c
  up_same =
      up-unique a c (div_up n d) q
      (mul-cancel d p (rw (mul_left_comm d c (div_up n d), ← e) (mul_mono c (<-≤ q) (up-ge n d p))))
      (mul-cancel-< d p (rw (mul_left_comm d c (div_up n d -ℤ pos 1), ← e) (mul-mono-< c q (up_lt n d p))))

-- ends are equal by their two numbers
pub same_ends : {a b c d : ℤ} → a ≡ b → c ≡ d → ◌≡◌ {A = Ends} (record { lower = a; upper = c }) (record { lower = b; upper = d })
same_ends p q = cc
