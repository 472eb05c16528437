-- What the machine needs for the terms and for the sides: that what they are made of fits 64 bits.
use Rattle.std.specs.Prelude.{ℕ, ◌*◌, ◌≤◌, ◌<◌, pos, ◌*ℤ◌}
use Rattle.std.specs.Int.{w64}
use Rattle.std.proofs.Common.{SFits}
use Rattle.arith.specs.Fitting.{ScaledFits, Sized}
use Rattle.arith.specs.declared.Ends.{Ends}

pub record TermFits (over under : ℕ) (t : Ends) (k : ℕ) : Type 0 where
  pub some : 0 < under * k
  pub step : SFits w64 (pos under *ℤ pos k)
  pub times : ScaledFits (pos over) t

pub record SideFits (part : Ends) (span idle : ℕ) : Type 0 where
  pub size : Sized 120000000000000 part
  pub wide : span ≤ 20000
  pub low : idle ≤ 3000
