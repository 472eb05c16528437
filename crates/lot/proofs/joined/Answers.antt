-- A record that is not faulty is sound, and what is kept of the others has room.
use mathlib.Core.Path.{sym, ◌∙◌, subst}
use Rattle.lot.specs.Room.{RoomyRun}
use Rattle.lot.proofs.Sound.{sound}
use Rattle.lot.proofs.joined.Goals as goal

pub with_record-requires : goal.with_record-requires
with_record-requires c = (sound _ (sym c.is_faulty.ensures ∙ c.if-is_faulty.false), subst (RoomyRun 255) c.in_ok-t.was c.requires.1)
