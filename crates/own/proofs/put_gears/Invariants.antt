-- The gears of k seconds are put.
use Rattle.std.proofs.Common.{◌≡◌, length}
use Rattle.own.specs.Own.{put_gears}
use Rattle.own.specs.ByTenths.{second_at}
use Rattle.own.proofs.put_gears.Given as goal

abbrev pub invariant-loop-k : goal.invariant-loop-k
invariant-loop-k l = (length l.own ≡ length l.initial.own) × (l.own ≡ put_gears (second_at l.t l.trace.bytes.now) l.initial.own l.k)
