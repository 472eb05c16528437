-- Ranges, both ends belonging to them, as the checks of a sheet ask for them.
use Rattle.std.specs.Prelude.{ℕ, Bool, ◌&&◌, leb, ℤ}
use Rattle.std.specs.Int.Signed.{le_z}

abbrev pub within : ℕ → ℕ → ℕ → Bool
within least most n = leb least n && leb n most

-- of a signed number
abbrev pub withinℤ : ℤ → ℤ → ℤ → Bool
withinℤ least most n = le_z least n && le_z n most
