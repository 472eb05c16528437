-- `put_seconds` meets its contract: a second more is stored behind those before it.
use Rattle.std.proofs.Common.{◌≡◌, ◌∙◌, length, take, length-take, arith}
use Rattle.house.specs.House.{speed_at}
use Rattle.house.proofs.Written.{second-next}
use Rattle.draft.specs.Draft.{mended_flags}
use Rattle.draft.proofs.Gaps.{gap-next}
use Rattle.draft.proofs.put_seconds.Goals as goal

pub loop-k-preserved : goal.loop-k-preserved
loop-k-preserved c =
    let draft = c.args.draft.file.bytes.now in
    let buffer = c.args.buffer.now in
    let room = c.requires in
    let head : length (take 8 buffer) ≡ 8 = simp length-take (omega (arith, room)) in (
      gap-next draft c.loop-k.k c.gap_at-gap.ensures,
      c.put_second.auto.file ∙ c.loop-k.invariant.1,
      c.put_second.ensures
          ∙ second-next (speed_at draft) (mended_flags draft) (take 8 buffer) c.loop-k.k buffer head c.loop-k.invariant.2 c.speed.ensures.0 c.mended_flags-flags.ensures (omega (arith, room)),
    )
