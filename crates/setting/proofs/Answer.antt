-- An answer is a setting or a refusal, and not both. Assumes nothing.
use mathlib.Core.Path.{◌≡◌}
use Rattle.std.specs.Prelude.{Result, Ok, Err}
use Rattle.refusal.specs.declared.Refusal.{Refusal}
use Rattle.setting.specs.declared.Setting.{Setting}

pub refused-no-set : {refusal : Refusal} {s : Setting} → Err refusal ≡ Ok s → ⊥
refused-no-set e = cc

pub set_same : {s t : Setting} → ◌≡◌ {A = Result Setting Refusal} (Ok s) (Ok t) → s ≡ t
set_same e = cc
