-- The house file (01, Trace), byte by byte: 8 bytes of head, then 4 bytes a second. Seconds count from 0 here.
use Rattle.std.specs.Prelude.{ℕ, ◌+◌, ◌*◌, ◌/◌, ◌%◌, ◌≤◌, Bool, ◌&&◌, ◌||◌, List, get_or, length, eqb, leb}

-- 01, Trace: "16 bits, little-endian"
abbrev pub sixteen_at : List ℕ → ℕ → ℕ
sixteen_at bytes at = get_or bytes at 0 + 256 * get_or bytes (at + 1) 0

-- 01, Trace: "version (16 bits, little-endian, 1)"; 02, M-109: "Trace version 2 has only the phase"
abbrev pub version_of : List ℕ → ℕ
version_of trace = sixteen_at trace 4

-- the versions that are read
abbrev pub readable : ℕ → Bool
readable version = eqb version 1 || eqb version 2

-- the flags that a version allows: in version 1 bits 0 to 3, "others zero", in version 2 bits 0 and 1; a version that is not read allows none
abbrev pub allows : ℕ → ℕ → Bool
allows version flags = (eqb version 1 && leb flags 15) || (eqb version 2 && leb flags 3)

-- 01, Trace: "bytes W T R, one zero byte, version"; W is 87, T 84, R 82. The head has 8 bytes, and its version is known or not
abbrev pub headed_by : Bool → List ℕ → Bool
headed_by known file =
    leb 8 (length file)
    && (eqb (get_or file 0 0) 87 && eqb (get_or file 1 0) 84 && eqb (get_or file 2 0) 82 && eqb (get_or file 3 0) 0 && known)

abbrev pub headed : List ℕ → Bool
headed trace = headed_by (readable (version_of trace)) trace

-- 01, Trace: "count of seconds"
abbrev pub count_of : List ℕ → ℕ
count_of trace = sixteen_at trace 6

-- the trace goes on for n seconds at least: 8 bytes of head, and 4 for each
abbrev pub Lasts : List ℕ → ℕ → Type 0
Lasts trace n = 8 + 4 * n ≤ length trace

-- 01, Trace: "speed in 0.1 km/h"
abbrev pub speed_at : List ℕ → ℕ → ℕ
speed_at trace k = sixteen_at trace (4 * k + 8)

-- 01, Trace: "flags"
abbrev pub flags_at : List ℕ → ℕ → ℕ
flags_at trace k = get_or trace (4 * k + 10) 0

-- 01, Trace: the "zero" after the flags
abbrev pub zero_at : List ℕ → ℕ → ℕ
zero_at trace k = get_or trace (4 * k + 11) 0

-- 01, Trace: "bits 0-1 phase"
abbrev pub phase_of : ℕ → ℕ
phase_of flags = flags % 4

-- 01, Trace: "0 stop"
abbrev pub stop : ℕ → Bool
stop flags = eqb (phase_of flags) 0

-- 01, Trace: "1 acceleration"
abbrev pub acceleration : ℕ → Bool
acceleration flags = eqb (phase_of flags) 1

-- 01, Trace: "2 cruise"
abbrev pub cruise : ℕ → Bool
cruise flags = eqb (phase_of flags) 2

-- 01, Trace: "3 deceleration"
abbrev pub deceleration : ℕ → Bool
deceleration flags = eqb (phase_of flags) 3

-- 01, Trace: "bit 2 no gear-shift"
abbrev pub no_shift : ℕ → Bool
no_shift flags = eqb (flags / 4 % 2) 1

-- 01, Trace: "bit 3 no 1. gear"
abbrev pub no_first : ℕ → Bool
no_first flags = eqb (flags / 8 % 2) 1

-- 02, M-109: "any such mark"
abbrev pub marked : ℕ → Bool
marked flags = no_shift flags || no_first flags

-- the same of a second of a trace
abbrev pub stop_at : List ℕ → ℕ → Bool
stop_at trace k = stop (flags_at trace k)

abbrev pub no_first_at : List ℕ → ℕ → Bool
no_first_at trace k = no_first (flags_at trace k)

-- 02, M-109: whether a second with the flags makes it "a marked version 1 trace"
abbrev pub marked_in : ℕ → ℕ → Bool
marked_in version flags = eqb version 1 && marked flags

abbrev pub marked_at : List ℕ → ℕ → Bool
marked_at trace k = marked_in (version_of trace) (flags_at trace k)

-- 4: "speed, flags or fourth byte wrong": the speed 0 to 2,000, the flags as the version allows them, the fourth byte zero
abbrev pub good_by : Bool → ℕ → ℕ → Bool
good_by allowed speed fourth = leb speed 2000 && allowed && eqb fourth 0

abbrev pub good_in : ℕ → ℕ → ℕ → ℕ → Bool
good_in version speed flags fourth = good_by (allows version flags) speed fourth

abbrev pub second_good : List ℕ → ℕ → Bool
second_good trace k = good_in (version_of trace) (speed_at trace k) (flags_at trace k) (zero_at trace k)

-- ---- drafts (02, M-112): "The draft form is version 3 of the trace"
abbrev pub draft_headed : List ℕ → Bool
draft_headed draft = headed_by (eqb (version_of draft) 3) draft

-- "bit 4 for 'phase missing'"
abbrev pub missing : ℕ → Bool
missing flags = eqb (flags / 16 % 2) 1

abbrev pub missing_at : List ℕ → ℕ → Bool
missing_at draft k = missing (flags_at draft k)

-- "and then phase bits zero": bits 0 to 3 as in version 1, or bit 4 and the marks beside it
abbrev pub draft_allows : ℕ → Bool
draft_allows flags = leb flags 15 || (leb flags 31 && eqb (phase_of flags) 0)

abbrev pub draft_good : List ℕ → ℕ → Bool
draft_good draft k = good_by (draft_allows (flags_at draft k)) (speed_at draft k) (zero_at draft k)

-- "the gap takes that phase": bit 4 goes, and the marks stay
abbrev pub with_phase : ℕ → ℕ → ℕ
with_phase flags phase = flags % 16 + phase
