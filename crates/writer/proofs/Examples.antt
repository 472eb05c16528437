-- The writer's definitions at literals: two seconds, what is refused, and the bytes of the buffer. Assumes nothing.
use mathlib.Core.Path.{◌≡◌, refl}
use mathlib.Core.List.{List, [], ◌∷◌}
use Prim.Native.Nat.{ℕ}
use lib.ListN.{set, take}
use Rattle.std.specs.Prelude.{Ok, Err}
use Rattle.refusal.specs.declared.Refusal.TheVariants.{Count, Second, Room}
use Rattle.house.specs.Written.{seconds_to}
use Rattle.writer.specs.Writer.{write_answer, write_buffer}

-- a stop, and 30.1 km/h in acceleration
abbrev seconds : List ℕ
seconds = 0 ∷ 0 ∷ 301 ∷ 1 ∷ []

-- 17 bytes, one more than the trace has
abbrev lent : List ℕ
lent = 9 ∷ 9 ∷ 9 ∷ 9 ∷ 9 ∷ 9 ∷ 9 ∷ 9 ∷ 9 ∷ 9 ∷ 9 ∷ 9 ∷ 9 ∷ 9 ∷ 9 ∷ 9 ∷ 9 ∷ []

-- 301 is 45 + 256; the byte behind stays
two-written : write_buffer seconds lent ≡ 87 ∷ 84 ∷ 82 ∷ 0 ∷ 2 ∷ 0 ∷ 2 ∷ 0 ∷ 0 ∷ 0 ∷ 0 ∷ 0 ∷ 45 ∷ 1 ∷ 1 ∷ 0 ∷ 9 ∷ []
unfolding write_buffer write_answer seconds_to
two-written = refl

-- 2: no second, and a speed without its phase, before any other fault
no-count : (write_answer [] 17 ≡ Err Count) × (write_answer (take 3 seconds) 17 ≡ Err Count) × (write_answer (2001 ∷ []) 0 ≡ Err Count)
unfolding write_answer
no-count = (refl, refl, refl)

-- 4: 200.1 km/h, a phase of 4, in 16 bits of 256; the first is named, before the room
no_second : (write_answer (set seconds 0 2000) 17 ≡ Ok tt) × (write_answer (set seconds 0 2001) 0 ≡ Err (Second 1))
    × (write_answer (set seconds 3 4) 0 ≡ Err (Second 2)) × (write_answer (set seconds 3 256) 17 ≡ Err (Second 2))
    × (write_answer (set (set seconds 3 4) 1 4) 17 ≡ Err (Second 1))
unfolding write_answer
no_second = (refl, refl, refl, refl, refl)

-- 8: 16 bytes do, 15 do not
no_room : (write_answer seconds 16 ≡ Ok tt) × (write_answer seconds 15 ≡ Err Room)
unfolding write_answer
no_room = (refl, refl)

-- on a refusal every byte stays
kept : (write_buffer (set seconds 3 4) lent ≡ lent) × (write_buffer seconds (take 15 lent) ≡ take 15 lent)
unfolding write_buffer write_answer
kept = (refl, refl)
