-- The loop of `is_level`: what is found from second `from` on is what is found from second k on.
use Rattle.std.proofs.Common.{◌≡◌, ◌-◌, Bool, true, false, List, ℕ, nat_eq}
use Rattle.walk.specs.Walk.{scan}
use Rattle.house.specs.House.{speed_at}
use Rattle.draft.specs.Draft.{level}
use Rattle.draft.proofs.is_level.Given as goal

-- the seconds from k on have the speed of `from`
abbrev pub level_from : List ℕ → ℕ → ℕ → ℕ → Bool
level_from draft from to k = scan (λ k. nat_eq (speed_at draft k) (speed_at draft from)) (λ k. false) (λ k. true) k (to - k)

abbrev pub invariant-loop-k : goal.invariant-loop-k
invariant-loop-k l = level l.draft.file.bytes.now l.from l.to ≡ level_from l.draft.file.bytes.now l.from l.to l.k
