-- 01, Refusal numbers: "Lowest number first; within a number the first place". Checks stand in a list in that order, and the first that
-- fails names the refusal.
use Rattle.std.specs.Prelude.{Bool, true, false, List, [], ◌∷◌, ℕ, Result, Ok, Err}
use Rattle.refusal.specs.declared.Refusal.{Refusal}

-- what a stage says of what it judges: nothing, or the refusal, which is handed up as it is
abbrev pub Judged : Type 0
Judged = Result (Unit {0}) Refusal

-- one check before the others
abbrev pub checked : Bool → Refusal → Judged → Judged
checked true refusal rest = rest
checked false refusal rest = Err refusal

pub record Check : Type 0 where
  pub holds : Bool
  pub refusal : Refusal

-- the checks of a list, and then the rest
abbrev pub checked_all : List Check → Judged → Judged
checked_all [] rest = rest
checked_all (c ∷ cs) rest = checked c.holds c.refusal (checked_all cs rest)

-- a list of checks and nothing after it
abbrev pub judged_by : List Check → Judged
judged_by cs = checked_all cs (Ok tt)

-- what follows an accepted stage; a refused one ends the run
abbrev pub and_then : Judged → Judged → Judged
and_then (Ok _) next = next
and_then (Err refusal) next = Err refusal

-- the bytes of a lent buffer: what is new where a stage accepted; a refusal leaves the old
abbrev pub if_accepted : Judged → List ℕ → List ℕ → List ℕ
if_accepted (Ok _) new old = new
if_accepted (Err refusal) new old = old
