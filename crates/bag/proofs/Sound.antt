-- What an accepted bag sheet tells of its numbers, which the stages above require. Assumes nothing.
use mathlib.Core.Path.{◌≡◌}
use mathlib.Core.Bool.{true}
use mathlib.Core.List.{List, [], ◌∷◌, ◌++◌}
use Prim.Native.Nat.{ℕ, ◌*◌}
use lib.Dec.{eqb}
use borrow.Author.Tests.{leb-true, eqb-true, eq-eqb}
use Rattle.std.specs.Prelude.{Ok}
use Rattle.refusal.specs.declared.Gas.{Gas}
use Rattle.refusal.specs.declared.Gas.TheVariants.{HC, CO, NOx, CO2, NMHC}
use Rattle.refusal.specs.Judging.{Check}
use Rattle.refusal.specs.Ranges.{within}
use Rattle.refusal.proofs.Judging.{AllHold, judged-holds}
use Rattle.refusal.proofs.Ranges.{both, range, rangeℤ}
use Rattle.bag.specs.Gas.{along}
use Rattle.bag.specs.declared.Part.{Part}
use Rattle.bag.specs.declared.BagSheet.{BagSheet}
use Rattle.bag.specs.Sheet.{density_at, limit_at, parts_of, class_holds, limit_check, efficiency_checks, test_checks, density_check, value_checks}
use Rattle.bag.specs.Sheet.{of_third, sheet_checks, judge_sheet}
use Rattle.bag.specs.Sound.{Ranged, Tested, Sound}
use Rattle.bag.proofs.Gas.{by-gas}

-- where one list after another holds, both do
pub apart : (cs ds : List Check) → AllHold (cs ++ ds) → AllHold cs × AllHold ds
apart [] ds h = (tt, h)
apart (c ∷ cs) ds h =
    let (first, others) = h in
    let (here, after) = apart cs ds others in
    ((first, here), after)

-- where the lists of all gases hold, each does
along-holds : (f : Gas → List Check) → AllHold (along f) → (gas : Gas) → AllHold (f gas)
along-holds f h =
    let (hc, after-hc) = apart (f HC) (f CO ++ (f NOx ++ (f CO2 ++ f NMHC))) h in
    let (co, after-co) = apart (f CO) (f NOx ++ (f CO2 ++ f NMHC)) after-hc in
    let (nox, after-nox) = apart (f NOx) (f CO2 ++ f NMHC) after-co in
    let (co2, nmhc) = apart (f CO2) (f NMHC) after-nox in
    by-gas (λ gas. AllHold (f gas)) hc co nox co2 nmhc

ranged : (part : ℕ) (p : Part) → AllHold (value_checks part p) → Ranged p
unfolding value_checks
ranged part p h =
    let (pump, (revolutions, (ml, (barometer, (depression, (temperature, (humidity, (saturation, (distance, density))))))))) = h in
    let densities = along-holds (density_check part p.density) density in
    record {
      pump = range _ _ p.pump pump;
      revolutions = range _ _ p.revolutions revolutions;
      pumped = leb-true (p.pump * p.revolutions) _ ml;
      barometer = range _ _ p.barometer barometer;
      depression = range _ _ p.depression depression;
      temperature = rangeℤ _ _ p.temperature temperature;
      humidity = range _ _ p.humidity humidity;
      saturation = range _ _ p.saturation saturation;
      distance = range _ _ p.distance distance;
      density = λ gas. range _ _ (density_at gas p.density) (densities gas).0;
    }

tested : (s : BagSheet) → class_holds s.class s.parts ≡ true → AllHold (test_checks s.triple s.fuel s.limits s.efficiencies) → Tested s
unfolding test_checks
tested s e h =
    let (class, parts) = both (within 1 3 s.class) (eqb s.parts (parts_of s.class)) e in
    let (d, (wc, (wh, (k, (hc, (co, (co2, (density, after)))))))) = h in
    let (limit, (methane, (ethane, end))) = apart (along (limit_check s.limits)) (efficiency_checks s.efficiencies) after in
    let limits = along-holds (limit_check s.limits) limit in
    let t = s.triple in
    let f = s.fuel in
    record {
      class = range _ _ s.class class;
      parts = eqb-true _ _ parts;
      triple = record { d = range _ _ t.d d; wc = range _ _ t.wc wc; wh = range _ _ t.wh wh };
      fuel =
          record {
            k = range _ _ f.k k;
            hc = range _ _ f.hc hc;
            co = range _ _ f.co co;
            co2 = range _ _ f.co2 co2;
            density = range _ _ f.density density;
          };
      limits = λ gas. leb-true (limit_at gas s.limits) _ (limits gas).0;
      efficiencies = record { methane = range _ _ s.efficiencies.methane methane; ethane = range _ _ s.efficiencies.ethane ethane };
    }

-- class 3 has the checks of the third part
pub third-holds : (class : ℕ) (cs : List Check) → AllHold (of_third class cs) → class ≡ 3 → AllHold cs
third-holds class cs h e = rw (eq-eqb class 3 e) at h

pub accepted-sound : (s : BagSheet) → judge_sheet s ≡ Ok tt → Sound s
unfolding sheet_checks
accepted-sound s e =
    let values-3 = of_third s.class (value_checks 3 s.third) in
    let values-2 = value_checks 2 s.second ++ values-3 in
    let values-1 = value_checks 1 s.first ++ values-2 in
    let (class, values) = judged-holds (sheet_checks s) e in
    let (test, parts) = apart (test_checks s.triple s.fuel s.limits s.efficiencies) values-1 values in
    let (first, later) = apart (value_checks 1 s.first) values-2 parts in
    let (second, third) = apart (value_checks 2 s.second) values-3 later in
    record {
      tested = tested s class test;
      first = ranged 1 s.first first;
      second = ranged 2 s.second second;
      third = λ c. ranged 3 s.third (third-holds s.class _ third c);
    }
