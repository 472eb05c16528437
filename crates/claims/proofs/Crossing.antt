-- Every number that crosses the boundary, and every figure of the fuels, is the one of the lists, by computation. Assumes nothing.
use mathlib.Core.Path.{refl}
use Rattle.claims.specs.Figures.{All}
use Rattle.claims.specs.Crossing.{crossing, fuels}

pub crosses : All crossing
crosses = (refl, (refl, (refl, (refl, (refl, (refl, (refl, (refl, (refl, (refl, (refl, (refl, (refl, (refl, (refl, (refl, (refl, (refl, (refl, (refl, (refl, (refl, (refl, (refl, (refl, (refl, (refl, (refl, (refl, (refl, (refl, (refl, (refl, (refl, (refl, tt)))))))))))))))))))))))))))))))))))

pub fuelled : All fuels
fuelled = (refl, (refl, (refl, (refl, (refl, (refl, (refl, (refl, (refl, (refl, (refl, (refl, (refl, (refl, (refl, (refl, (refl, (refl, (refl, (refl, (refl, (refl, (refl, (refl, tt))))))))))))))))))))))))
