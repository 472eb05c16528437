-- A record is not faulty exactly where no gas that it has is. Assumes nothing.
use mathlib.Core.Path.{◌≡◌, sym}
use mathlib.Core.Bool.{Bool, true, false, ◌&&◌, ◌||◌, true≢false}
use Rattle.refusal.specs.declared.Gas.{Gas}
use Rattle.refusal.specs.declared.Gas.TheVariants.{HC, CO, NOx, CO2, NMHC}
use Rattle.bag.proofs.Gas.{by-gas}
use Rattle.sides.specs.Gases.{ends_at}
use Rattle.record.specs.declared.Record.{Record}
use Rattle.record.specs.Record.{has_gas}
use Rattle.tally.specs.Entries.{faulty_ends}
use Rattle.tally.proofs.Sound.{neither, sound-ends}
use Rattle.lot.specs.Lot.{of_any, faulty}
use Rattle.lot.specs.Room.{Sound}

of_none : (p : Gas → Bool) → of_any p ≡ false → (gas : Gas) → p gas ≡ false
of_none p e =
    let h = neither (p HC) (p CO || (p NOx || (p CO2 || p NMHC))) e in
    let i = neither (p CO) (p NOx || (p CO2 || p NMHC)) h.1 in
    let j = neither (p NOx) (p CO2 || p NMHC) i.1 in
    let k = neither (p CO2) (p NMHC) j.1 in
    by-gas (λ gas. p gas ≡ false) h.0 i.0 j.0 k.0 k.1

fault-there : (has fault : Bool) → (has && fault) ≡ false → has ≡ true → fault ≡ false
fault-there true fault e h = e
fault-there false fault e h = absurd (true≢false (sym h))

pub none-faulty : (r : Record) → faulty r ≡ false → (gas : Gas) → has_gas gas r ≡ true → faulty_ends (ends_at gas r.weighted) ≡ false
unfolding faulty
none-faulty r f gas = fault-there _ _ (of_none (λ gas. has_gas gas r && faulty_ends (ends_at gas r.weighted)) f gas)

pub sound : (r : Record) → faulty r ≡ false → Sound r
sound r f gas has = (sound-ends (ends_at gas r.weighted) (none-faulty r f gas has)).0

pub not-faulty : (r : Record) → ((gas : Gas) → (has_gas gas r && faulty_ends (ends_at gas r.weighted)) ≡ false) → faulty r ≡ false
unfolding faulty
not-faulty r h = rw (h HC, h CO, h NOx, h CO2, h NMHC)
