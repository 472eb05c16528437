-- The live engine (02, M-110): it "takes one second at a time, gives the final gear and clutch of a second once the next five are known or the trace has ended, and
-- keeps only a small state". Seconds count from 0 here.
use Rattle.std.specs.Prelude.{ℕ, zero, suc, ◌+◌, ◌-◌, ◌*◌, min, Bool, not, cond, ◌&&◌, ◌||◌, List, [], ◌∷◌, ◌++◌, get_or, drop, eqb, ltb}
use Rattle.walk.specs.Walk.{in_turn, pairs}
use Rattle.house.specs.House.{flags_at, speed_at, stop, no_first}
use Rattle.row.specs.declared.Rule.TheVariants.{NoFirst, NoShift, NoDrop, OneStep}
use Rattle.row.specs.Corrections.{uncapped, capped, cap_after, ruled}
use Rattle.vehicle.specs.declared.VehicleSheet.{VehicleSheet}
use Rattle.clutch.specs.Clutch.{clutch_of}
use Rattle.live.specs.declared.Former.{Former}
use Rattle.live.specs.declared.Pending.{Pending}
use Rattle.live.specs.declared.Live.{Live}
use Rattle.live.specs.declared.Given.{Given}

-- ---- corrections 1 to 5: each is one step on from the second before, as that correction left it

-- the gear of a second as the one behind it sees it: only the last second of a stop run is seen, and that has gear 1
abbrev pub seen : ℕ → ℕ → ℕ
seen flags own = cond (stop flags) 1 own

-- after correction 1, 2, .., 5; `start` says that it is the first second
unfoldable pub first : Former → ℕ → ℕ → ℕ
first f flags own = capped flags f.cap (seen flags own)

unfoldable pub second : Bool → Former → ℕ → ℕ → ℕ
second start f flags own = ruled NoFirst start f.flags flags 0 (first f flags own)

unfoldable pub third : Bool → Former → ℕ → ℕ → ℕ
third start f flags own = ruled NoShift start f.flags flags f.third (second start f flags own)

unfoldable pub fourth : Bool → Former → ℕ → ℕ → ℕ
fourth start f flags own = ruled NoDrop start f.flags flags f.fourth (third start f flags own)

unfoldable pub fifth : Bool → Former → ℕ → ℕ → ℕ
fifth start f flags own = ruled OneStep start f.flags flags f.fifth (fourth start f flags own)

unfoldable pub former_after : Bool → Former → ℕ → ℕ → Former
former_after start f flags own = record {
  flags = flags;
  cap = cap_after flags f.cap (seen flags own);
  third = third start f flags own;
  fourth = fourth start f flags own;
  fifth = fifth start f flags own;
}

-- ---- correction 6: a run waits for the second behind it, while it has at most four seconds and a second of another gear before it

-- a mark in the state is a number, so that every state is one that a caller can hand back: 0 where there is none
abbrev pub mark_of : Bool → ℕ
mark_of b = cond b 1 0

abbrev pub has_mark : Pending → Bool
has_mark p = ltb 0 p.marked

-- a run that stays, whatever comes
abbrev pub stays : Pending
stays = record { count = 0; left = 0; marked = 0 }

-- a run's first second, behind one of the gear `left`
abbrev pub opened : ℕ → ℕ → Pending
opened left flags = record { count = 1; left = left; marked = mark_of (no_first flags) }

-- one second more; with a fifth it stays
unfoldable pub longer : Pending → ℕ → Pending
longer p flags =
    cond (ltb 0 p.count && ltb p.count 4)
    (record { count = p.count + 1; left = p.left; marked = mark_of (has_mark p || no_first flags) })
    stays

-- "with the same other gear on both sides, neither neighbour a stop, takes that gear; unless that is 1 and the run has a 'no 1. gear' second"
unfoldable pub takes_over : Pending → ℕ → ℕ → Bool
takes_over p flags gear = ltb 0 p.count && not (stop flags) && eqb p.left gear && not (eqb gear 1 && has_mark p)

-- how many of the last seconds take the gear of the one now received
unfoldable pub reach : Pending → ℕ → ℕ → ℕ
reach p flags gear = cond (takes_over p flags gear) p.count 0

-- "A run holds no stop second and ends at one"; "a replaced run and the two beside it become one run, which counts as judged"
unfoldable pub pending_after : Pending → ℕ → ℕ → ℕ → ℕ → Pending
pending_after p former before flags gear =
    cond (stop flags) stays
    (cond (stop former) stays
    (cond (eqb gear before) (longer p flags)
    (cond (takes_over p flags gear) stays (opened before flags))))

-- ---- a second received

-- stop seconds in a row, up to the one now received; six are as good as more
unfoldable pub stops_after : ℕ → ℕ → ℕ
stops_after stops flags = cond (stop flags) (min (stops + 1) 6) 0

-- the last five of a kind, the newest first: a new one comes, as many of the others as are reached become the same, and the oldest goes
abbrev pub kept_at : List ℕ → ℕ → ℕ → ℕ → ℕ
kept_at last new reached i = cond (ltb i reached) new (get_or last i 0)

unfoldable pub last_five : List ℕ → ℕ → ℕ → List ℕ
last_five last new reached = new ∷ kept_at last new reached 0 ∷ kept_at last new reached 1 ∷ kept_at last new reached 2 ∷ kept_at last new reached 3 ∷ []

-- the gear of a second after corrections 1 to 5
abbrev pub gear_of : Live → ℕ → ℕ → ℕ
gear_of s flags own = fifth (eqb s.received 0) s.former flags own

unfoldable pub step : Live → ℕ → ℕ → ℕ → Live
step s speed flags own = record {
  received = s.received + 1;
  former = former_after (eqb s.received 0) s.former flags own;
  pending = pending_after s.pending s.former.flags s.former.fifth flags (gear_of s flags own);
  stops = stops_after s.stops flags;
  gears = last_five s.gears (gear_of s flags own) (reach s.pending flags (gear_of s flags own));
  flags = last_five s.flags flags 0;
  speeds = last_five s.speeds speed 0;
}

-- ---- what is given

-- "the last five seconds of a run of stop seconds are gear 1, earlier ones gear 0": with a sixth stop second in a row, the first of the six is an earlier one
abbrev pub given_gear : ℕ → ℕ → ℕ
given_gear stops gear = cond (ltb 5 stops) 0 gear

-- the call of a second gives the fifth before it, if there is one, with the clutch by its final gear
abbrev pub due : Live → ℕ
due s = cond (ltb s.received 5) 0 1

abbrev pub oldest : Live → ℕ → ℕ
oldest s flags = given_gear (stops_after s.stops flags) (get_or s.gears 4 0)

unfoldable pub given : VehicleSheet → Live → ℕ → List ℕ
given v s flags =
    cond (ltb s.received 5) []
    (oldest s flags ∷ clutch_of v (get_or s.flags 4 0) (get_or s.speeds 4 0) (oldest s flags) ∷ [])

-- what is given of so many seconds, with zeros behind it: room for five
abbrev pub no_bytes : List ℕ
no_bytes = 0 ∷ 0 ∷ 0 ∷ 0 ∷ 0 ∷ 0 ∷ 0 ∷ 0 ∷ 0 ∷ 0 ∷ []

abbrev pub packed : ℕ → List ℕ → Given
packed count bytes = record { count = count; bytes = bytes ++ drop (2 * count) no_bytes }

-- the end gives the last five, or all where there are fewer
abbrev pub waiting : Live → ℕ
waiting s = min s.received 5

-- of the seconds that wait, the one i after the oldest
abbrev pub place_of : Live → ℕ → ℕ
place_of s i = waiting s - (i + 1)

abbrev pub last_gear : Live → ℕ → ℕ
last_gear s i = get_or s.gears (place_of s i) 0

abbrev pub last_clutch : VehicleSheet → Live → ℕ → ℕ
last_clutch v s i = clutch_of v (get_or s.flags (place_of s i) 0) (get_or s.speeds (place_of s i) 0) (last_gear s i)

unfoldable pub finish : VehicleSheet → Live → List ℕ
finish v s = pairs (last_gear s) (last_clutch v s) (waiting s)

-- ---- the seconds of a trace, one after the other; `own` is the gear of each outside stop
abbrev pub fresh : Live
fresh = record {
  received = 0;
  former = record { flags = 0; cap = uncapped; third = 0; fourth = 0; fifth = 0 };
  pending = stays;
  stops = 0;
  gears = 0 ∷ 0 ∷ 0 ∷ 0 ∷ 0 ∷ [];
  flags = 0 ∷ 0 ∷ 0 ∷ 0 ∷ 0 ∷ [];
  speeds = 0 ∷ 0 ∷ 0 ∷ 0 ∷ 0 ∷ [];
}

abbrev pub state_at : (ℕ → ℕ) → List ℕ → ℕ → Live
state_at own trace n = in_turn (λ s k. step s (speed_at trace k) (flags_at trace k) (own k)) fresh n

-- all that the calls of the first n seconds have given
unfoldable pub given_to : VehicleSheet → (ℕ → ℕ) → List ℕ → ℕ → List ℕ
given_to v own trace zero = []
given_to v own trace (suc n) = given_to v own trace n ++ given v (state_at own trace n) (flags_at trace n)

-- and what the end then gives
abbrev pub live_row : VehicleSheet → (ℕ → ℕ) → List ℕ → ℕ → List ℕ
live_row v own trace n = given_to v own trace n ++ finish v (state_at own trace n)
