-- Prompting the rider live (02, M-110): the live engine with its vehicle, and what it refuses. Seconds count from 0 here.
use Rattle.std.specs.Prelude.{ℕ, ◌+◌, Bool, not, ◌&&◌, [], eqb, ltb, Result, Ok, Err}
use Rattle.refusal.specs.declared.Refusal.{Refusal}
use Rattle.refusal.specs.declared.Refusal.TheVariants.{Header, Count, Second, Marked, TooClose}
use Rattle.refusal.specs.Judging.{Judged, checked}
use Rattle.house.specs.House.{readable, good_in, marked_in}
use Rattle.vehicle.specs.declared.VehicleSheet.{VehicleSheet}
use Rattle.vehicle.specs.Sheet.{judge_vehicle}
use Rattle.shift.specs.Speeds.{shift_of, Own}
use Rattle.tenths.specs.Least.{tenths_of}
use Rattle.own.specs.ByTenths.{second_by_tenths}
use Rattle.live.specs.declared.Given.{Given}
use Rattle.live.specs.Live.{fresh, step, due, given, packed, waiting, finish}
use Rattle.prompt.specs.declared.Engine.{Engine}
use Rattle.prompt.specs.declared.Received.{Received}

-- ---- the start
-- "1 for a named version not 1 or 2, then 5 to 7, before the first second"
unfoldable pub judge_begin : ℕ → VehicleSheet → Judged
judge_begin version v = checked (readable version) Header (judge_vehicle v)

-- an engine with nothing received
abbrev pub begun : ℕ → VehicleSheet → Engine
begun version v = record { version = version; v = v; tenths = tenths_of (shift_of v); live = fresh }

-- ---- a second
abbrev pub own_of : Engine → Received → Own
own_of e s = second_by_tenths e.tenths s.flags s.speed

-- 20: "a marked version 1 trace under set 2"
abbrev pub may_be : Engine → Received → Bool
may_be e s = not (eqb e.v.rules 2 && marked_in e.version s.flags)

-- "2 on second 2,001"; "with 4, 20 and 9 in that order on one second". The place counts from 1
unfoldable pub judge_second : Engine → Received → Judged
judge_second e s =
    let place = e.live.received + 1 in
    checked (ltb e.live.received 2000) Count
    (checked (good_in e.version s.speed s.flags s.fourth) (Second place)
    (checked (may_be e s) (Marked place)
    (checked (not (own_of e s).close) (TooClose place) (Ok tt))))

-- the engine with a second more
abbrev pub after : Engine → Received → Engine
after e s = record { version = e.version; v = e.v; tenths = e.tenths; live = step e.live s.speed s.flags (own_of e s).gear }

-- what the call of a second leaves and gives
pub record Heard : Type 0 where
  pub judged : Judged
  pub engine : Engine
  pub given : Given

-- a refused one leaves the engine as it was and gives nothing
abbrev pub heard_by : Judged → Engine → Received → Heard
heard_by (Ok _) e s = record { judged = Ok tt; engine = after e s; given = packed (due e.live) (given e.v e.live s.flags) }
heard_by (Err refusal) e s = record { judged = Err refusal; engine = e; given = packed 0 [] }

unfoldable pub heard : Engine → Received → Heard
heard e s = heard_by (judge_second e s) e s

-- ---- the end
-- "2 .. at an end with no second received"
unfoldable pub judge_end : Engine → Judged
judge_end e = checked (ltb 0 e.live.received) Count (Ok tt)

pub record Ended : Type 0 where
  pub judged : Judged
  pub given : Given

abbrev pub ended_by : Judged → Engine → Ended
ended_by (Ok _) e = record { judged = Ok tt; given = packed (waiting e.live) (finish e.v e.live) }
ended_by (Err refusal) e = record { judged = Err refusal; given = packed 0 [] }

unfoldable pub ended : Engine → Ended
ended e = ended_by (judge_end e) e

-- ---- what a call answers: what is given, or the refusal
abbrev pub answer_by : Judged → Given → Result Given Refusal
answer_by (Ok _) given = Ok given
answer_by (Err refusal) given = Err refusal
