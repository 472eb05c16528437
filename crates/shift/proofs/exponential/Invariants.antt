-- The term is the one before the k-th, and the sum is that of the terms up to it.
use Rattle.std.proofs.Common.{◌≡◌, ◌-◌}
use Rattle.shift.specs.Exponential.{term_of, sum_to}
use Rattle.shift.proofs.exponential.Given as goal

abbrev pub invariant-loop-k : goal.invariant-loop-k
invariant-loop-k l = (l.term ≡ term_of l.over l.under (l.k - 1)) × (l.sum ≡ sum_to l.over l.under (l.k - 1))
