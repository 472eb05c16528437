-- An exact value is a fraction of whole numbers. The operations compute at literals and reduce nothing, so that a formula of 01 can be
-- written down as it stands. A denominator is positive wherever a statement is made of a fraction: `Between` asks it.
use Rattle.std.specs.Prelude.{ℕ, ℤ, pos, ◌+ℤ◌, ◌-ℤ◌, ◌*ℤ◌, ◌≤ℤ◌, ◌<ℤ◌}
use Rattle.arith.specs.declared.Ends.{Ends}

pub record Fraction : Type 0 where
  pub num : ℤ
  pub den : ℤ

abbrev pub whole : ℤ → Fraction
whole n = record { num = n; den = pos 1 }

-- a decimal number: n / d
abbrev pub decimal : ℤ → ℕ → Fraction
decimal n d = record { num = n; den = pos d }

infixl 6 ◌+ᶠ◌
abbrev pub ◌+ᶠ◌ : Fraction → Fraction → Fraction
p +ᶠ q = record { num = q.den *ℤ p.num +ℤ p.den *ℤ q.num; den = q.den *ℤ p.den }

infixl 6 ◌-ᶠ◌
abbrev pub ◌-ᶠ◌ : Fraction → Fraction → Fraction
p -ᶠ q = record { num = q.den *ℤ p.num -ℤ p.den *ℤ q.num; den = q.den *ℤ p.den }

infixl 7 ◌*ᶠ◌
abbrev pub ◌*ᶠ◌ : Fraction → Fraction → Fraction
p *ᶠ q = record { num = p.num *ℤ q.num; den = p.den *ℤ q.den }

-- by a positive fraction
infixl 7 ◌/ᶠ◌
abbrev pub ◌/ᶠ◌ : Fraction → Fraction → Fraction
p /ᶠ q = record { num = p.num *ℤ q.den; den = p.den *ℤ q.num }

-- lower ≤ num / den ≤ upper, said without a division
pub record Between (e : Ends) (q : Fraction) : Type 0 where
  pub positive : pos 0 <ℤ q.den
  pub above : (q.den *ℤ e.lower) ≤ℤ q.num
  pub below : q.num ≤ℤ (q.den *ℤ e.upper)
