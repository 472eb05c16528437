-- What it is for a contract to fix its outcome: any two results, and any two last values of what lies behind the `&mut` parameters, that the
-- contract allows of the same arguments are equal. `Pre` and `Post` are a contract's own clauses.
use Rattle.std.specs.Prelude.{ℕ, ◌≡◌, List}
use seplogic.Ra.Ura.{Ura}
use base.Logic.{SProp}
use contract.Lifetimes.{Lfts}
use contract.Monad.{fact}
use Rattle.std.specs.Borrow.{Bor}
use borrow.Fn.Kinds.{ParamKind, ResultKind, Dens, res_t, ended_of, In, Out}
use denote.Triple.Clauses.{Lasts, at_exit}

abbrev pub Coincide : (n : ℕ) (ps : List (ParamKind n)) (r : ResultKind n) → In n ps → Out n ps r → Type 0
Coincide n ps r Pre Post =
    (κs : Lfts n) (a : Dens κs ps) (x y : (res_t r κs).Denot) (ws vs : Lasts (ended_of n ps r) κs a) →
    Pre κs a →
    Post κs a x (at_exit (ended_of n ps r) κs a ws) →
    Post κs a y (at_exit (ended_of n ps r) κs a vs) →
    (x ≡ y) × (ws ≡ vs)

-- The same of a function over a slice of structs, said of the contract's own clause, which speaks of the result and of the list at the end. The clause states
-- a plain fact, which only one result and one last contents have.
pub record Fixes {M : Type 1} (𝓤 : Ura M) {R T : Type 0} (clause : R → Bor (List T) → SProp 𝓤) : Type 2 where
  pub says : R → Bor (List T) → Type 0
  pub stated : (x : R) (end : Bor (List T)) → clause x end ≡ fact 𝓤 (says x end)
  pub only : (x y : R) (end last : Bor (List T)) → says x end → says y last → (x ≡ y) × (end.now ≡ last.now)
