-- What was read: where a part has ends, each message has them; and it is refused exactly as its list of checks says. Assumes nothing.
use mathlib.Core.Path.{◌≡◌, refl}
use mathlib.Core.Bool.{false≢true}
use Prim.Native.Nat.{ℕ}
use Rattle.std.specs.Prelude.{Err, None, Ok, Option, Result, Some}
use Rattle.arith.specs.declared.Ends.{Ends}
use Rattle.refusal.specs.declared.Gas.{Gas}
use Rattle.refusal.specs.declared.Gas.TheVariants.{HC, CO, NOx, CO2, NMHC}
use Rattle.refusal.specs.declared.Side.TheVariants.{Bag, Air}
use Rattle.refusal.specs.declared.Refusal.{Refusal}
use Rattle.refusal.specs.declared.Refusal.TheVariants.{Reading}
use Rattle.refusal.specs.Table.{gas_number, side_number}
use Rattle.refusal.specs.Judging.{Judged, checked, checked_all, judged_by}
use Rattle.bag.specs.Gas.{message_at}
use Rattle.bag.specs.declared.Part.{Part}
use Rattle.bag.proofs.Gas.{by-gas}
use Rattle.sides.specs.declared.GasSides.{GasSides}
use Rattle.sides.specs.declared.Sides.{Sides}
use Rattle.sides.specs.Gases.{ends_at, each}
use Rattle.sides.specs.ReadIn.{read_gas, on_gas, worth_of, gas_of, sides_from, read_part, judged_part, is_usable, gas_checks, reading_checks}

-- ---- what a stage held that was not refused, and what followed it
pub record Took {X A Y : Type 0} (made : A → X) (x : X) (next : A → Y) (y : Y) : Type 0 where
  pub held : A
  pub taken : x ≡ made held
  pub then : next held ≡ y

took-gas : (g : Result GasSides Refusal) (next : GasSides → Result Sides Refusal) {sides : Sides} → on_gas g next ≡ Ok sides → Took Ok g next (Ok sides)
took-gas (Ok both) next e = record { held = both; taken = refl; then = e }
took-gas (Err refusal) next e = absurd (false≢true (cc))

-- ---- ends
pub record Held (p : Part) (gas : Gas) (in_bag in_air : Ends) : Type 0 where
  pub bag : worth_of gas (message_at gas p.bag) ≡ Some in_bag
  pub air : worth_of gas (message_at gas p.air) ≡ Some in_air

both-held : (part : ℕ) (gas : Gas) (b a : Option Ends) {both : GasSides} →
    read_gas part gas b a ≡ Ok both → (b ≡ Some both.bag) × (a ≡ Some both.air)
unfolding read_gas
both-held part gas (Some b) (Some a) e = (cc, cc)
both-held part gas (Some b) None e = absurd (false≢true (cc))
both-held part gas None a e = absurd (false≢true (cc))

gas-held : (part : ℕ) (p : Part) (gas : Gas) {both : GasSides} → gas_of part p gas ≡ Ok both → Held p gas both.bag both.air
gas-held part p gas e =
    let held = both-held part gas (worth_of gas (message_at gas p.bag)) (worth_of gas (message_at gas p.air)) e in
    record { bag = held.0; air = held.1 }

-- where a part has ends, each of its messages has them
pub units-held : (part : ℕ) (p : Part) (sides : Sides) → read_part part p ≡ Ok sides →
    (gas : Gas) → Held p gas (ends_at gas sides.bag) (ends_at gas sides.air)
unfolding read_part sides_from each
units-held part p sides e =
    let hc = took-gas (gas_of part p HC) _ e in
    let co = took-gas (gas_of part p CO) _ hc.then in
    let nox = took-gas (gas_of part p NOx) _ co.then in
    let co2 = took-gas (gas_of part p CO2) _ nox.then in
    let cutter = took-gas (gas_of part p NMHC) _ co2.then in
    let all = sides_from hc.held co.held nox.held co2.held cutter.held in
    let same : sides ≡ all = let h = cutter.then in cc in
    rw same
    (by-gas (λ gas. Held p gas (ends_at gas all.bag) (ends_at gas all.air))
    (gas-held part p HC hc.taken) (gas-held part p CO co.taken) (gas-held part p NOx nox.taken) (gas-held part p CO2 co2.taken)
    (gas-held part p NMHC cutter.taken))

-- ---- refusals
both-judged : (part : ℕ) (gas : Gas) (b a : Option Ends) (next : GasSides → Result Sides Refusal) (rest : Judged) → ((both : GasSides) → judged_part (next both) ≡ rest) →
    judged_part (on_gas (read_gas part gas b a) next) ≡ checked (is_usable b) (Reading part (gas_number gas) (side_number Bag)) (checked (is_usable a) (Reading part (gas_number gas) (side_number Air)) rest)
unfolding read_gas
both-judged part gas (Some b) (Some a) next rest h = h _
both-judged part gas (Some b) None next rest h = refl
both-judged part gas None a next rest h = refl

gas-judged : (part : ℕ) (p : Part) (gas : Gas) (next : GasSides → Result Sides Refusal) (rest : Judged) → ((both : GasSides) → judged_part (next both) ≡ rest) →
    judged_part (on_gas (gas_of part p gas) next) ≡ checked_all (gas_checks part p gas) rest
gas-judged part p gas next rest h = both-judged part gas (worth_of gas (message_at gas p.bag)) (worth_of gas (message_at gas p.air)) next rest h

-- a part is refused as its list of checks says
pub part-judged : (part : ℕ) (p : Part) → judged_part (read_part part p) ≡ judged_by (reading_checks part p)
unfolding read_part reading_checks
part-judged part p =
    gas-judged part p HC _ _ λ hc.
    gas-judged part p CO _ _ λ co.
    gas-judged part p NOx _ _ λ nox.
    gas-judged part p CO2 _ _ λ co2.
    gas-judged part p NMHC _ _ λ cutter.
    refl
