-- The version of the boundary: raised by every change of a struct or of a meaning and by new functions or refusals, beside YLHOVESKO_VERSION of include/ylhovesko.h.
use Rattle.std.specs.Prelude.{ℕ}

abbrev pub version : ℕ
version = 13
