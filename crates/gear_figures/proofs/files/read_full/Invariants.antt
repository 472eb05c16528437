-- No more is read than the bytes have room for.
use Rattle.std.proofs.Common.{◌≤◌, length}
use Rattle.gear_figures.proofs.files.read_full.Given as goal

abbrev pub invariant-loop : goal.invariant-loop
invariant-loop g l = l.done ≤ length l.bytes
