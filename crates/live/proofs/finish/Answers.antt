-- A turn of the loop of `finish`: it writes the two bytes of the second that waits longest of those left.
use mathlib.Core.Path.{refl, ap, ◌∙◌}
use Prim.Native.Nat.{ℕ, ◌+◌, ◌-◌}
use native.Mathlib.Omega.{arith}
use lib.ListN.{get_or}
use Rattle.walk.proofs.Walk.{pairs_next}
use Rattle.clutch.specs.Clutch.{clutch_of}
use Rattle.live.specs.Live.{no_bytes}
use Rattle.live.proofs.finish.Invariants.{gear_from, clutch_from}
use Rattle.live.proofs.finish.Goals as goal

pub loop-i-preserved : goal.loop-i-preserved
loop-i-preserved c =
    let v = c.args.v in
    let s = c.args.s in
    let m = c.waiting-m.result in
    let i = c.loop-i.i in
    let clutch =
    c.clutch_of.ensures
    ∙ ap (λ (speed : ℕ). clutch_of v (get_or s.flags (m - (i + 1)) 0) speed (gear_from s.gears m i)) c.from.ensures in
    record {
      few = omega arith;
      written = pairs_next (gear_from s.gears m) (clutch_from v s.gears s.flags s.speeds m) no_bytes i c.loop-i.invariant.written refl clutch (omega arith);
    }
