-- Each stage's outcome is the definition's, and its size what the next asks.
use Rattle.stage.proofs.Sizes.{kh_size}
use Rattle.part.proofs.Sizes.{masses-ranges, kh-ranges, masses-sizes}
use Rattle.part.proofs.mass_in.Goals as goal

pub masses-dry-requires : goal.masses-dry-requires
masses-dry-requires c = rw (c.volume_in.ensures, c.staged.ensures, c.g_in-g.ensures, c.q_of-q.ensures) (masses-ranges c.requires)

pub corrected_for-requires : goal.corrected_for-requires
corrected_for-requires c =
    let dry = rw (c.volume_in.ensures, c.staged.ensures, c.g_in-g.ensures, c.q_of-q.ensures) at c.masses-dry.ensures in
    rw (dry, c.kh-kh.ensures) (masses-sizes c.requires, kh_size (kh-ranges c.requires))
