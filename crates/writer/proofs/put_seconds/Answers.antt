-- `put_seconds` meets its contract: the phase of a second that can be written is below 256, and a second more is stored behind those before it.
use Rattle.std.proofs.Common.{◌≡◌, ◌∙◌, refl, length, take, length-take, arith}
use Rattle.house.proofs.Written.{second-next}
use Rattle.writer.specs.Writer.{speed_in, phase_in}
use Rattle.writer.proofs.Sound.{phases-few}
use Rattle.writer.proofs.put_seconds.Goals as goal

pub overflow_cast-phase : goal.overflow_cast-phase
overflow_cast-phase c =
    let few = phases-few c.args.seconds.now c.args.n c.requires.taken c.loop-k.k (omega arith) in
    omega (arith, few)

pub loop-k-preserved : goal.loop-k-preserved
loop-k-preserved c =
    let buffer = c.args.buffer.now in
    let room = c.requires.fits in
    let head : length (take 8 buffer) ≡ 8 = simp length-take (omega (arith, room)) in (
      c.put_second.auto.file ∙ c.loop-k.invariant.0,
      c.put_second.ensures
          ∙ second-next (speed_in c.args.seconds.now) (phase_in c.args.seconds.now) (take 8 buffer) c.loop-k.k buffer head c.loop-k.invariant.1 refl refl (omega (arith, room)),
    )
