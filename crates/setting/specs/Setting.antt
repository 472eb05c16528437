-- Settings beside each other, and how large they are.
use Rattle.std.specs.Prelude.{◌≤◌}
use Rattle.setting.specs.declared.Setting.{Setting}

-- no number of the second setting is below that of the first
pub record NotBelow (s t : Setting) : Type 0 where
  pub inertia : s.inertia ≤ t.inertia
  pub resistance : s.resistance ≤ t.resistance
  pub drag : s.drag ≤ t.drag

-- what every setting has, roughly: what is worked out of it is far below what a word holds
pub record Settled (s : Setting) : Type 0 where
  pub inertia : s.inertia ≤ 1000
  pub some : 1 ≤ s.resistance
  pub resistance : s.resistance ≤ 1000
  pub drag : s.drag ≤ 1000
