-- What the loop of `highest` keeps: none before place i is higher.
use Rattle.lane_clutch.specs.Clutch.{Tops}
use Rattle.lane_clutch.proofs.highest.Given as goal

abbrev pub invariant-loop-i : goal.invariant-loop-i
invariant-loop-i l = Tops l.tables l.i l.most
