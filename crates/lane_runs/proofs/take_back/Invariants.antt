-- What the loop of `take_back` keeps: d seconds are taken.
use Rattle.lane_runs.specs.Runs.{TakenTo}
use Rattle.lane_runs.proofs.take_back.Given as goal

abbrev pub invariant-loop-d : goal.invariant-loop-d
invariant-loop-d l = TakenTo l.d l.runs l.k l.initial.lanes l.lanes
