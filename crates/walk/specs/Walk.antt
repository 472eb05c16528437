-- Ways to go through places in turn: the seconds of a trace, the gears of a vehicle. Every rule over "each second" or "the first second that" is made
-- of these.
use Rattle.std.specs.Prelude.{ℕ, zero, suc, ◌+◌, Bool, cond, List, [], ◌∷◌, ◌++◌}

-- the step at 0, then at 1, .., then at n - 1, each on the state as it then is
abbrev pub in_turn : {S : Type 0} → (S → ℕ → S) → S → ℕ → S
in_turn step state zero = state
in_turn step state (suc n) = step (in_turn step state n) n

-- of the n places from k on, the first that is not good: what `out` says of it; where all are good, what `done` says of the one after them
abbrev pub scan : {A : Type 0} → (ℕ → Bool) → (ℕ → A) → (ℕ → A) → ℕ → ℕ → A
scan good out done k zero = done k
scan good out done k (suc n) = cond (good k) (scan good out done (k + 1) n) (out k)

-- a list of n places: what `at` says of 0, of 1, .., of n - 1
unfoldable pub listed : {A : Type 0} → (ℕ → A) → ℕ → List A
listed at zero = []
listed at (suc n) = listed at n ++ (at n ∷ [])

-- two bytes for each of n places: one 0, other 0, one 1, other 1, ..
abbrev pub pairs : (ℕ → ℕ) → (ℕ → ℕ) → ℕ → List ℕ
pairs one other zero = []
pairs one other (suc n) = pairs one other n ++ (one n ∷ other n ∷ [])
