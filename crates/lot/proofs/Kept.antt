-- What is kept of the records from one on, by one record more, how large it is, and the answer that it comes to. Assumes nothing.
use mathlib.Core.Path.{◌≡◌, refl, sym, subst}
use mathlib.Core.Bool.{Bool, true, false, cond}
use mathlib.Core.List.{List, [], ◌∷◌}
use mathlib.Core.Option.{Option, none, some}
use Prim.Native.Nat.{ℕ, suc, ◌≤◌}
use native.Mathlib.Omega.{arith}
use lib.ListN.{length}
use Rattle.std.specs.Prelude.{Ok, Err, Result}
use Rattle.refusal.specs.declared.Gas.{Gas}
use Rattle.refusal.specs.declared.Gas.TheVariants.{HC, CO, NOx, CO2, NMHC}
use Rattle.arith.specs.Fitting.{Sized}
use Rattle.sides.specs.Gases.{ends_at}
use Rattle.record.specs.declared.Record.{Record}
use Rattle.record.specs.Record.{has_gas}
use Rattle.tally.specs.Entries.{Entry, most_end}
use Rattle.tally.specs.Room.{Roomy}
use Rattle.tally.specs.Kept.{tally_of, no_tally}
use Rattle.tally.proofs.Counts.{added-one, no_room, added-room, wider-tally, gas-is}
use Rattle.lot.specs.declared.Tallies.{Tallies}
use Rattle.lot.specs.Lot.{entry_at, entries_from, entries_of, each_sheet, sheet_of, faulty, first_fault, on_fault}
use Rattle.lot.specs.Kept.{tally_at, each_tally, tallies_from, added_if, with_record, running_of, running_from, nothing, kept_with, joined_to, sheet_by, answer_by}
use Rattle.lot.specs.Room.{Sound, RoomyAll, RoomyRun}
use Rattle.lot.proofs.Each.{tally-at}
use Rattle.lot.proofs.Sound.{sound}

-- ---- one record more
one-if : (has : Bool) (e : Entry) (es : List Entry) → added_if has e (tally_of es) ≡ tally_of (cond has (e ∷ es) es)
one-if true e es = added-one e es
one-if false e es = refl

with-one : (at : ℕ) (r : Record) (rs : List Record) → with_record at r (tallies_from (suc at) rs) ≡ tallies_from at (r ∷ rs)
unfolding with_record tallies_from each_tally
with-one at r rs =
    let one : (gas : Gas) → added_if (has_gas gas r) (entry_at gas at r) (tally_of (entries_from gas (suc at) rs)) ≡ tally_of (entries_from gas at (r ∷ rs)) =
    λ gas. one-if (has_gas gas r) (entry_at gas at r) (entries_from gas (suc at) rs) in
    (λ i. record { hc = one HC i; co = one CO i; nox = one NOx i; co2 = one CO2 i; nmhc = one NMHC i })

joined_by : (at : ℕ) (r : Record) (rs : List Record) (t : Bool) (f : Option ℕ)
    → running_of (cond t (some at) f) (tallies_from at (r ∷ rs)) ≡ cond t (Err at) (kept_with at r (running_of f (tallies_from (suc at) rs)))
joined_by at r rs true f = refl
joined_by at r rs false none = rw (with-one at r rs)
joined_by at r rs false (some k) = refl

pub running-step : (at : ℕ) (r : Record) (rs : List Record) → running_from at (r ∷ rs) ≡ joined_to at r (running_from (suc at) rs)
unfolding running_from joined_to
running-step at r rs = joined_by at r rs (faulty r) (first_fault (suc at) rs)

pub running_none : (at : ℕ) → running_from at [] ≡ nothing
unfolding running_from tallies_from nothing no_tally
running_none at = refl

-- ---- room
with-room : (m at : ℕ) (r : Record) (t : Tallies) → Sound r → RoomyAll m t → RoomyAll (suc m) (with_record at r t)
unfolding with_record
with-room m at r t s h gas = rw (tally-at gas (λ g. added_if (has_gas g r) (entry_at g at r) (tally_at g t))) (go (has_gas gas r) (s gas))
  where
    go : (has : Bool) → (has ≡ true → Sized most_end (ends_at gas r.weighted)) → Roomy (suc m) (added_if has (entry_at gas at r) (tally_at gas t))
    go true s = added-room m (entry_at gas at r) (tally_at gas t) (s refl) (h gas)
    go false s = wider-tally (omega arith) (h gas)

kept-room : (m at : ℕ) (r : Record) (after : Result Tallies ℕ) → Sound r → RoomyRun m after → RoomyRun (suc m) (kept_with at r after)
kept-room m at r (Ok t) s h = with-room m at r t s h
kept-room m at r (Err index) s h = tt

joined-room : (m at : ℕ) (r : Record) (after : Result Tallies ℕ) → RoomyRun m after → RoomyRun (suc m) (joined_to at r after)
unfolding joined_to
joined-room m at r after h = go (faulty r) (sound r)
  where
    go : (t : Bool) → (t ≡ false → Sound r) → RoomyRun (suc m) (cond t (Err at) (kept_with at r after))
    go true s = tt
    go false s = kept-room m at r after (s refl) h

none-room : RoomyRun 0 nothing
unfolding nothing
none-room gas = rw (tally-at gas (λ g. no_tally)) no_room

pub running-room : (at : ℕ) (rs : List Record) → RoomyRun (length rs) (running_from at rs)
running-room at [] = subst (RoomyRun 0) (sym (running_none at)) none-room
running-room at (r ∷ rs) =
    subst (RoomyRun (suc (length rs))) (sym (running-step at r rs)) (joined-room (length rs) at r (running_from (suc at) rs) (running-room (suc at) rs))

pub wider-room : (m k : ℕ) (running : Result Tallies ℕ) → m ≤ k → RoomyRun m running → RoomyRun k running
wider-room m k (Ok t) h r = λ gas. wider-tally h (r gas)
wider-room m k (Err index) h r = tt

-- ---- the answer
answer-by : (rs : List Record) (f : Option ℕ) → answer_by (running_of f (tallies_from 0 rs)) ≡ on_fault f (sheet_of rs)
unfolding sheet_by sheet_of tallies_from each_tally each_sheet
answer-by rs none = rw (gas-is (entries_of HC rs), gas-is (entries_of CO rs), gas-is (entries_of NOx rs), gas-is (entries_of CO2 rs), gas-is (entries_of NMHC rs))
answer-by rs (some k) = refl

pub answer-of-all : (rs : List Record) → answer_by (running_from 0 rs) ≡ on_fault (first_fault 0 rs) (sheet_of rs)
unfolding running_from
answer-of-all rs = answer-by rs (first_fault 0 rs)
