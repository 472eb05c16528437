-- How large what was read can be.
use Rattle.refusal.specs.declared.Gas.{Gas}
use Rattle.stage.specs.Ranges.{UpTo, largest_reading}
use Rattle.sides.specs.declared.Gases.{Gases}
use Rattle.sides.specs.Gases.{ends_at}

-- the ends of readings, in units of 1/256 ppm
abbrev pub ReadingSizes : Gases → Type 0
ReadingSizes g = (gas : Gas) → UpTo largest_reading (ends_at gas g)
