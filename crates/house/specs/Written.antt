-- The bytes of a house file (01, Trace; 02, M-109 and M-112): the head, and of each second its speed, its flags and the zero byte. Seconds count from 0 here.
use Rattle.std.specs.Prelude.{ℕ, zero, suc, ◌+◌, ◌*◌, ◌/◌, ◌%◌, List, [], ◌∷◌, ◌++◌, set}

-- 01, Trace: "bytes W T R, one zero byte, version (16 bits, little-endian, ..), count of seconds (16 bits, little-endian, ..)"
abbrev pub head_of : ℕ → ℕ → List ℕ
head_of version n = 87 ∷ 84 ∷ 82 ∷ 0 ∷ version % 256 ∷ version / 256 ∷ n % 256 ∷ n / 256 ∷ []

-- "4 bytes a second: speed in 0.1 km/h (16 bits, little-endian, ..), flags, zero"
abbrev pub second_of : ℕ → ℕ → List ℕ
second_of speed flags = speed % 256 ∷ speed / 256 ∷ flags ∷ 0 ∷ []

-- the first n seconds, by what their speeds and flags are
unfoldable pub seconds_to : (ℕ → ℕ) → (ℕ → ℕ) → ℕ → List ℕ
seconds_to speeds flags zero = []
seconds_to speeds flags (suc n) = seconds_to speeds flags n ++ second_of (speeds n) (flags n)

abbrev pub file_of : ℕ → (ℕ → ℕ) → (ℕ → ℕ) → ℕ → List ℕ
file_of version speeds flags n = head_of version n ++ seconds_to speeds flags n

-- a file with its second k stored
abbrev pub with_second : List ℕ → ℕ → ℕ → ℕ → List ℕ
with_second file k speed flags =
    let at = 4 * k + 8 in
    set (set (set (set file at (speed % 256)) (at + 1) (speed / 256)) (at + 2) flags) (at + 3) 0
