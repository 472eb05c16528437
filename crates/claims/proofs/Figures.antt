-- 01, Known figures: every figure of the list is what the definitions give, by computation. Assumes nothing.
use mathlib.Core.Path.{refl}
use Rattle.arith.specs.Rounding.{div_down, div_up}
use Rattle.arith.specs.Stages.{exactly, sum_of, difference_of, scaled_by, hull_of, product_of, divided_by}
use Rattle.stage.specs.Combination.{combination_of}
use Rattle.stage.specs.Part.{volume_of, g_of, concentration_of, gas_volume_of, mass_of, kh_of, rate_of}
use Rattle.weigh.specs.Test.{weighted_of, fuel_of, verdict_of}
use Rattle.runs.specs.Runs.{takes, run_judged, run_next, row_after, next_after, smooth, smoothed}
use Rattle.claims.specs.Figures.{All, figures}

pub known : All figures
unfolding volume_of g_of concentration_of gas_volume_of mass_of kh_of rate_of weighted_of fuel_of verdict_of combination_of sum_of difference_of scaled_by hull_of
    product_of divided_by div_down div_up exactly smoothed smooth row_after run_judged next_after run_next takes
known =
    (refl, (refl, (refl, (refl, (refl, (refl, (refl, (refl, (refl, (refl, (refl, (refl, (refl, (refl, (refl, (refl, (refl, (refl, (refl, tt)))))))))))))))))))
