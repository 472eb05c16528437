-- Lists of checks: one after the other, and what it means that all hold. Assumes nothing.
use mathlib.Core.Path.{◌≡◌, refl, ap, ◌∙◌}
use mathlib.Core.Bool.{Bool, true, false}
use Prim.Native.Nat.{ℕ}
use native.Mathlib.Omega.{arith}
use mathlib.Core.List.{List, [], ◌∷◌, ◌++◌}
use Rattle.refusal.specs.declared.Refusal.{Refusal}
use Rattle.std.specs.Prelude.{Ok, Err}
use Rattle.refusal.specs.Judging.{Judged, checked, Check, checked_all, judged_by, and_then}

-- one list after another
pub checked_all-append : (cs ds : List Check) (rest : Judged) → checked_all (cs ++ ds) rest ≡ checked_all cs (checked_all ds rest)
checked_all-append [] ds rest = refl
checked_all-append (c ∷ cs) ds rest = ap (checked c.holds c.refusal) (checked_all-append cs ds rest)

-- a list of checks is a stage
then_by : (holds : Bool) (refusal : Refusal) {a : Judged} (b rest : Judged) → a ≡ and_then b rest → checked holds refusal a ≡ and_then (checked holds refusal b) rest
then_by true refusal b rest e = e
then_by false refusal b rest e = refl

pub checked_all-then : (cs : List Check) (rest : Judged) → checked_all cs rest ≡ and_then (judged_by cs) rest
checked_all-then [] rest = refl
checked_all-then (c ∷ cs) rest = then_by c.holds c.refusal (judged_by cs) rest (checked_all-then cs rest)

-- so what follows a check follows a stage
pub one_check : (holds : Bool) (refusal : Refusal) (rest : Judged) → checked holds refusal rest ≡ and_then (checked holds refusal (Ok tt)) rest
one_check holds refusal rest = then_by holds refusal (Ok tt) rest refl

-- and so what follows a list of them
pub one_after_another : (cs ds : List Check) (rest : Judged) → checked_all (cs ++ ds) rest ≡ and_then (judged_by cs) (checked_all ds rest)
one_after_another cs ds rest = checked_all-append cs ds rest ∙ checked_all-then cs (checked_all ds rest)

-- a refusal accepts nothing
pub refused-not : {refusal : Refusal} → ◌≡◌ {A = Judged} (Err refusal) (Ok tt) → ⊥
refused-not p = let z : ◌≡◌ {A = ℕ} 0 1 = cc in omega arith

-- where a check accepts, it holds, and so do those after it
pub checked-holds : (holds : Bool) (refusal : Refusal) (rest : Judged) → checked holds refusal rest ≡ Ok tt → (holds ≡ true) × (rest ≡ Ok tt)
checked-holds true refusal rest e = (refl, e)
checked-holds false refusal rest e = absurd (refused-not e)

-- all checks of a list hold
abbrev pub AllHold : List Check → Type 0
AllHold [] = Unit {0}
AllHold (c ∷ cs) = (c.holds ≡ true) × AllHold cs

pub judged-holds : (cs : List Check) → judged_by cs ≡ Ok tt → AllHold cs
judged-holds [] e = tt
judged-holds (c ∷ cs) e =
    let h = checked-holds c.holds c.refusal (judged_by cs) e in
    (h.0, judged-holds cs h.1)

-- where a stage and what follows it accept, both do
pub then-holds : (a b : Judged) → and_then a b ≡ Ok tt → (a ≡ Ok tt) × (b ≡ Ok tt)
then-holds (Ok _) b e = (refl, e)
then-holds (Err refusal) b e = absurd (refused-not e)
