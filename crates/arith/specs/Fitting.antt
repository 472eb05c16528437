-- What the machine needs: that each sum and product of ends is a 64-bit signed number. And the two measures of ends by which callers show
-- it, and demand 3 is shown: how large they are, and how far apart.
use Rattle.std.specs.Prelude.{ℕ, ◌≤◌, ℤ, pos, nat_abs, ◌+ℤ◌, ◌-ℤ◌, ◌*ℤ◌, ◌≤ℤ◌}
use Rattle.std.specs.Int.{w64}
use Rattle.std.proofs.Common.{SFits}
use Rattle.arith.specs.declared.Ends.{Ends}

pub record SumFits (a b : Ends) : Type 0 where
  pub lower : SFits w64 (a.lower +ℤ b.lower)
  pub upper : SFits w64 (a.upper +ℤ b.upper)

pub record DifferenceFits (a b : Ends) : Type 0 where
  pub lower : SFits w64 (a.lower -ℤ b.upper)
  pub upper : SFits w64 (a.upper -ℤ b.lower)

pub record ScaledFits (k : ℤ) (a : Ends) : Type 0 where
  pub lower : SFits w64 (k *ℤ a.lower)
  pub upper : SFits w64 (k *ℤ a.upper)

pub record ProductFits (a b : Ends) : Type 0 where
  pub first : ScaledFits a.lower b
  pub last : ScaledFits a.upper b

-- both ends are from −m to m
pub record Sized (m : ℕ) (e : Ends) : Type 0 where
  pub lower : nat_abs e.lower ≤ m
  pub upper : nat_abs e.upper ≤ m

-- the lower end is at or below the upper, and at most w below it
pub record Narrow (w : ℕ) (e : Ends) : Type 0 where
  pub ordered : e.lower ≤ℤ e.upper
  pub apart : e.upper ≤ℤ (e.lower +ℤ pos w)
