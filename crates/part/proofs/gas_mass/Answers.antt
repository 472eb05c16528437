-- Each stage's size meets what the next asks.
use Rattle.stage.proofs.Sizes.{signed-concentration-size, gas-volume-size}
use Rattle.part.proofs.gas_mass.Goals as goal

pub gas_volume-requires : goal.gas_volume-requires
gas_volume-requires c =
    let s = c.requires in
    rw c.concentration-concentration.ensures (record { volume_size = s.volume_size; concentration_size = signed-concentration-size s.ranges })

pub mass-requires : goal.mass-requires
mass-requires c =
    let s = c.requires in
    rw (c.gas_volume.ensures, c.concentration-concentration.ensures)
    (record { gas_size = gas-volume-size 4 s.volume_size (signed-concentration-size s.ranges); density_most = s.density_most })
