-- The lot sheet, of the records that have a gas: the three counts add up to their number, the index is that of the first with the greatest upper end, the exact mean
-- lies between its ends; and the records of accepted tests are taken. Assumes nothing.
use mathlib.Core.Path.{◌≡◌, refl, sym, ap, ◌∙◌, subst}
use mathlib.Core.Logic.{◌⊎◌, inl, inr, ⊎_elim}
use mathlib.Core.Bool.{Bool, true, false, not, cond, ◌&&◌, ◌||◌, false≢true}
use mathlib.Core.List.{List, [], ◌∷◌}
use mathlib.Core.Option.{Option, none, some}
use Prim.Native.Nat.{ℕ, zero, suc, ◌+◌, ◌*◌, ◌≤◌, ◌<◌}
use native.Mathlib.Omega.{arith}
use borrow.Author.Tests.{le-leb}
use lib.Dec.{leb}
use lib.Dec.{eqb}
use lib.ListN.{length}
use lib.IntN.{ℤ, pos, ◌*ℤ◌}
use lib.Signed.{◌≤ℤ◌, ◌<ℤ◌, le_z, ≤ℤ_refl, clash_ℤ}
use Rattle.arith.specs.Fitting.{Sized}
use Rattle.arith.specs.Fraction.{Fraction, Between}
use Rattle.arith.specs.Stages.{divided_by}
use Rattle.arith.proofs.Parts.{zs}
use Rattle.arith.proofs.Ring.{≤_trans, <-≤}
use Rattle.arith.proofs.Machine.{le-true}
use Rattle.arith.proofs.Size.{abs-parts, wider-size}
use Rattle.arith.proofs.Enclosure.{ordered, exactly-holds, sum-holds, divided-holds, larger-ge}
use Rattle.bag.specs.Gas.{is_nmhc}
use Rattle.bag.proofs.Gas.{by-gas}
use Rattle.bag.proofs.Sound.{accepted-sound}
use Rattle.sides.specs.Gases.{ends_at}
use Rattle.part.specs.Ranges.{largest_mass_of}
use Rattle.late.proofs.Late.{parts-ranges}
use Rattle.emission.specs.Test.{result_of}
use Rattle.emission.proofs.Ranges.{result-ranges, weighted-sizes}
use Rattle.record.specs.declared.Record.{Record}
use Rattle.record.specs.Record.{flag_of, has_gas, record_of}
use Rattle.tally.specs.Entries.{Entry, most_end, least_end, faulty_ends, sum_over, greatest_of, worst_of, mean_of, gas_sheet}
use Rattle.tally.proofs.Sound.{taken-ends}
use Rattle.tally.proofs.Counts.{counts-add-up}
use Rattle.lot.specs.declared.LotSheet.{LotSheet}
use Rattle.std.specs.Prelude.{Ok, Err}
use Rattle.refusal.specs.declared.Gas.{Gas}
use Rattle.refusal.specs.declared.Refusal.TheVariants.{LotSize}
use Rattle.lot.specs.Lot.{entry_at, entries_from, entries_of, sheet_at, sheet_of, faulty, first_fault, most_records, on_fault, lot_answer}
use Rattle.lot.specs.Room.{Sound}
use Rattle.lot.proofs.Each.{sheet-at}
use Rattle.lot.proofs.Sound.{sound, not-faulty}
use Rattle.claims.specs.Exact.{has, exact_weighted}
use Rattle.claims.specs.Lots.{having, AddUp, upper_at, HasAt, Worst, WorstIn, exact_sum, exact_mean, AllBetween, MeanHolds, Test, records_of, exacts_of}
use Rattle.claims.proofs.Accepted.{accepted-result}
use Rattle.claims.proofs.Contained.{contained}
use Rattle.claims.proofs.Absent.{told}
use Rattle.claims.proofs.Verdicts.{above}

-- ---- what it takes for a lot to be answered with a sheet: no record is faulty
abbrev EachSound : List Record → Type 0
EachSound [] = Unit {0}
EachSound (r ∷ rs) = Sound r × EachSound rs

none_found : (at : ℕ) (rs : List Record) → first_fault at rs ≡ none → EachSound rs
none_found at [] e = tt
none_found at (r ∷ rs) e = go (faulty r) (sound r) (none_found (suc at) rs) e
  where
    go : (t : Bool) → (t ≡ false → Sound r) → (first_fault (suc at) rs ≡ none → EachSound rs) → cond t (some at) (first_fault (suc at) rs) ≡ none → Sound r × EachSound rs
    go true first rest e = absurd (false≢true (cc))
    go false first rest e = (first refl, rest e)

record AcceptedLot (rs : List Record) (s : LotSheet) : Type 0 where
  sounds : EachSound rs
  is : s ≡ sheet_of rs

accepted-lot : (rs : List Record) {s : LotSheet} → lot_answer rs ≡ Ok s → AcceptedLot rs s
unfolding lot_answer
accepted-lot rs {s} e = go (leb (length rs) most_records) (first_fault 0 rs) (none_found 0 rs) e
  where
    go : (t : Bool) (f : Option ℕ) → (f ≡ none → EachSound rs) → cond t (on_fault f (sheet_of rs)) (Err LotSize) ≡ Ok s → AcceptedLot rs s
    go true none sounds e = record { sounds = sounds refl; is = cc }
    go true (some k) sounds e = absurd (false≢true (cc))
    go false f sounds e = absurd (false≢true (cc))

-- what a sheet has of a gas is what the gas's entries give
gas-in : (gas : Gas) (rs : List Record) → sheet_at gas (sheet_of rs) ≡ gas_sheet (entries_of gas rs)
unfolding sheet_of
gas-in gas rs = sheet-at gas (λ g. gas_sheet (entries_of g rs))

-- ---- counts
entries-length : (gas : Gas) (at : ℕ) (rs : List Record) → length (entries_from gas at rs) ≡ length (having gas rs)
entries-length gas at [] = refl
entries-length gas at (r ∷ rs) = go (has_gas gas r) (entries-length gas (suc at) rs)
  where
    go : (b : Bool) → length (entries_from gas (suc at) rs) ≡ length (having gas rs)
        → length (cond b (entry_at gas at r ∷ entries_from gas (suc at) rs) (entries_from gas (suc at) rs)) ≡ length (cond b (r ∷ having gas rs) (having gas rs))
    go true e = ap suc e
    go false e = e

pub lot-counts : (rs : List Record) {s : LotSheet} → lot_answer rs ≡ Ok s → (gas : Gas) → AddUp gas rs (sheet_at gas s)
unfolding gas_sheet
lot-counts rs e gas = rw ((accepted-lot rs e).is, gas-in gas rs) (counts-add-up (entries_of gas rs) ∙ entries-length gas 0 rs)

-- ---- the record with the greatest upper end
module _ (gas : Gas) where
  abbrev upper_of : Record → ℤ
  upper_of r = (ends_at gas r.weighted).upper

  not-above : (at : ℕ) (rs : List Record) (k : ℕ) → k < length rs → HasAt gas rs k → upper_at gas rs k ≤ℤ greatest_of (entries_from gas at rs)
  not-above at [] k h there = absurd (omega arith)
  not-above at (r ∷ rs) zero h there = rw there (larger-ge (greatest_of (entries_from gas (suc at) rs)) (upper_of r)).1
  not-above at (r ∷ rs) (suc k) h there = go (has_gas gas r) (not-above (suc at) rs k (omega arith) there)
    where
      rest : ℤ
      rest = greatest_of (entries_from gas (suc at) rs)

      go : (b : Bool) → upper_at gas rs k ≤ℤ rest → upper_at gas rs k ≤ℤ greatest_of (cond b (entry_at gas at r ∷ entries_from gas (suc at) rs) (entries_from gas (suc at) rs))
      go true below = ≤_trans below (larger-ge rest (upper_of r)).0
      go false below = below

  -- in a list whose first index is `at`, the record with the greatest upper end, and that end
  record Found (at : ℕ) (rs : List Record) (place : ℕ) (top : ℤ) : Type 0 where
    index : ℕ
    is : place ≡ at + index
    greatest : top ≡ upper_at gas rs index
    worst : Worst gas rs index

  module _ (at : ℕ) (r : Record) (rs : List Record) where
    abbrev later : List Entry
    later = entries_from gas (suc at) rs

    -- a record that is not it stands before: it is below, where it has the gas
    shifted : {place : ℕ} {top : ℤ} → (has_gas gas r ≡ true → upper_of r <ℤ top) → Found (suc at) rs place top → Found at (r ∷ rs) place top
    shifted below f =
        record {
          index = suc f.index;
          is = f.is ∙ omega arith;
          greatest = f.greatest;
          worst = record { within = let w = f.worst.within in omega arith; there = f.worst.there; greatest = all; earliest = before };
        }
      where
        under : has_gas gas r ≡ true → upper_of r <ℤ upper_at gas rs f.index
        under there = subst (λ (n : ℤ). upper_of r <ℤ n) f.greatest (below there)

        all : (k : ℕ) → k < length (r ∷ rs) → HasAt gas (r ∷ rs) k → upper_at gas (r ∷ rs) k ≤ℤ upper_at gas rs f.index
        all zero k there = <-≤ (under there)
        all (suc j) k there = f.worst.greatest j (omega arith) there

        before : (k : ℕ) → k < suc f.index → HasAt gas (r ∷ rs) k → upper_at gas (r ∷ rs) k <ℤ upper_at gas rs f.index
        before zero k there = under there
        before (suc j) k there = f.worst.earliest j (omega arith) there

    itself : has_gas gas r ≡ true → greatest_of later ≤ℤ upper_of r → Found at (r ∷ rs) at (upper_of r)
    itself has h =
        record {
          index = 0;
          is = omega arith;
          greatest = refl;
          worst = record { within = omega arith; there = has; greatest = go; earliest = λ k none. absurd (omega arith) };
        }
      where
        go : (k : ℕ) → k < length (r ∷ rs) → HasAt gas (r ∷ rs) k → upper_at gas (r ∷ rs) k ≤ℤ upper_of r
        go zero k there = ≤ℤ_refl (upper_of r)
        go (suc j) k there = ≤_trans (not-above (suc at) rs j (omega arith) there) h

    chosen : has_gas gas r ≡ true → (upper_of r <ℤ greatest_of later → Found (suc at) rs (worst_of later) (greatest_of later))
        → Found at (r ∷ rs) (worst_of (entry_at gas at r ∷ later)) (greatest_of (entry_at gas at r ∷ later))
    chosen has f = go (le_z (greatest_of later) (upper_of r)) refl
      where
        go : (t : Bool) → le_z (greatest_of later) (upper_of r) ≡ t → Found at (r ∷ rs) (cond t at (worst_of later)) (cond t (upper_of r) (greatest_of later))
        go true e = itself has (le-true e)
        go false e = let h = above e in shifted (λ there. h) (f h)

  -- where no record has the gas there is none
  abbrev FoundIn : ℕ → List Record → List Entry → Type 0
  FoundIn at rs es = (es ≡ []) ⊎ Found at rs (worst_of es) (greatest_of es)

  found : (at : ℕ) (rs : List Record) → EachSound rs → FoundIn at rs (entries_from gas at rs)
  found at [] s = inl refl
  found at (r ∷ rs) s = go (has_gas gas r) refl (s.0 gas) (found (suc at) rs s.1)
    where
      es : List Entry
      es = entries_from gas (suc at) rs

      go : (b : Bool) → has_gas gas r ≡ b → (b ≡ true → Sized most_end (ends_at gas r.weighted)) → FoundIn (suc at) rs es → FoundIn at (r ∷ rs) (cond b (entry_at gas at r ∷ es) es)
      go false e size f = ⊎_elim (λ none. inl none) (λ there. inr (shifted at r rs (λ has. absurd (false≢true (sym e ∙ has))) there)) f
      go true e size f = inr (chosen at r rs e (λ h. ⊎_elim (λ none. clash_ℤ (subst (λ (l : List Entry). upper_of r <ℤ greatest_of l) none h) least) (λ there. there) f))
        where
          least : least_end ≤ℤ upper_of r
          least = let up = (size refl).upper in omega (zs, abs-parts (upper_of r))

empty : {A : Type 0} (xs : List A) → length xs ≡ 0 → xs ≡ []
empty [] e = refl
empty (x ∷ xs) e = absurd (omega arith)

no-entries : (e : Entry) (es : List Entry) → e ∷ es ≡ [] → ⊥
no-entries e es h = let n : suc (length es) ≡ 0 = ap length h in absurd (omega (arith, n))

pub lot-worst : (rs : List Record) {s : LotSheet} → lot_answer rs ≡ Ok s → (gas : Gas) → WorstIn gas rs (sheet_at gas s).mean
unfolding gas_sheet
lot-worst rs e gas = let a = accepted-lot rs e in rw (a.is, gas-in gas rs) (go (entries_of gas rs) (entries-length gas 0 rs) (found gas 0 rs a.sounds))
  where
    go : (es : List Entry) → length es ≡ length (having gas rs) → FoundIn gas 0 rs es → WorstIn gas rs (mean_of es)
    go [] n f = empty (having gas rs) (sym n)
    go (x ∷ xs) n (inl nothing) = absurd (no-entries x xs nothing)
    go (x ∷ xs) n (inr f) =
        let from-0 : 0 + f.index ≡ f.index = omega arith in
        rw (f.is ∙ from-0) f.worst

-- ---- the exact mean
module _ (gas : Gas) where
  sum-between : (at : ℕ) (rs : List Record) (qs : List Fraction) → AllBetween gas (having gas rs) qs → Between (sum_over (entries_from gas at rs)) (exact_sum qs)
  sum-between at [] [] h = exactly-holds (pos 0)
  sum-between at [] (q ∷ qs) h = absurd h
  sum-between at (r ∷ rs) qs h = go (has_gas gas r) qs (sum-between (suc at) rs) h
    where
      later : List Entry
      later = entries_from gas (suc at) rs

      go : (b : Bool) (qs : List Fraction) → ((qs : List Fraction) → AllBetween gas (having gas rs) qs → Between (sum_over later) (exact_sum qs))
          → AllBetween gas (cond b (r ∷ having gas rs) (having gas rs)) qs → Between (sum_over (cond b (entry_at gas at r ∷ later) later)) (exact_sum qs)
      go true [] rest h = absurd h
      go true (q ∷ qs) rest h = sum-holds h.0 (rest qs h.1)
      go false qs rest h = rest qs h

  as_many : (rs : List Record) (qs : List Fraction) → AllBetween gas rs qs → length rs ≡ length qs
  as_many [] [] h = refl
  as_many (r ∷ rs) (q ∷ qs) h = ap suc (as_many rs qs h.1)
  as_many [] (q ∷ qs) h = absurd h
  as_many (r ∷ rs) [] h = absurd h

  pub lot-mean : (rs : List Record) (qs : List Fraction) → AllBetween gas (having gas rs) qs → {s : LotSheet} → lot_answer rs ≡ Ok s
      → MeanHolds (sheet_at gas s).mean (exact_mean qs)
  unfolding gas_sheet
  lot-mean rs qs h e =
      rw ((accepted-lot rs e).is, gas-in gas rs)
      (go (entries_of gas rs) (entries-length gas 0 rs ∙ as_many (having gas rs) qs h) (sum-between 0 rs qs h))
    where
      go : (es : List Entry) → length es ≡ length qs → Between (sum_over es) (exact_sum qs) → MeanHolds (mean_of es) (exact_mean qs)
      go [] n sums = tt
      go (x ∷ xs) n sums =
          let some : pos 0 <ℤ pos (length (x ∷ xs)) = omega zs in
          subst (λ (m : ℕ). Between (divided_by (sum_over (x ∷ xs)) (pos (length (x ∷ xs)))) (record { num = (exact_sum qs).num *ℤ pos 1; den = (exact_sum qs).den *ℤ pos m })) n
          (divided-holds sums (pos (length (x ∷ xs))) some)

-- ---- records of accepted tests
-- a record has the gases that its test has
flag-told : (b : Bool) → not (eqb (flag_of b) 0) ≡ b
flag-told true = refl
flag-told false = refl

has-gas : (t : Test) (gas : Gas) → has_gas gas (record_of t.result) ≡ has t.sheet gas
has-gas t gas = ap (λ (b : Bool). not (is_nmhc gas) || b) (flag-told t.result.has_nmhc ∙ told t.sheet t.result t.accepted)

weighted-between : (t : Test) (gas : Gas) → has t.sheet gas ≡ true → Between (ends_at gas t.result.weighted) (exact_weighted gas t.sheet t.values)
weighted-between t = (contained t.sheet t.values t.result t.accepted t.measured).weighted

all-between : (gas : Gas) (ts : List Test) → AllBetween gas (having gas (records_of ts)) (exacts_of gas ts)
all-between gas [] = tt
all-between gas (t ∷ ts) = rw (has-gas t gas) (go (has t.sheet gas) (weighted-between t gas) (all-between gas ts))
  where
    go : (b : Bool) → (b ≡ true → Between (ends_at gas t.result.weighted) (exact_weighted gas t.sheet t.values))
        → AllBetween gas (having gas (records_of ts)) (exacts_of gas ts)
        → AllBetween gas (cond b (record_of t.result ∷ having gas (records_of ts)) (having gas (records_of ts)))
        (cond b (exact_weighted gas t.sheet t.values ∷ exacts_of gas ts) (exacts_of gas ts))
    go true here rest = (here refl, rest)
    go false here rest = rest

pub tests-mean : (gas : Gas) (ts : List Test) {s : LotSheet} → lot_answer (records_of ts) ≡ Ok s → MeanHolds (sheet_at gas s).mean (exact_mean (exacts_of gas ts))
tests-mean gas ts e = lot-mean gas (records_of ts) (exacts_of gas ts) (all-between gas ts) e

-- a weighted result is below 10^13: the fifth gas's is 7.52 x 10^12 at most
small : (gas : Gas) → 10 * largest_mass_of gas ≤ most_end
small = by-gas (λ gas. 10 * largest_mass_of gas ≤ most_end) (omega arith) (omega arith) (omega arith) (omega arith) (omega arith)

test-sized : (t : Test) (gas : Gas) → Sized most_end (ends_at gas t.result.weighted)
unfolding result_of
test-sized t gas =
    let a = accepted-result t.accepted in
    let s = accepted-sound t.sheet a.sheet in
    let sizes = weighted-sizes (result-ranges s.tested (parts-ranges s a.read a.late)) in
    rw a.result (wider-size (small gas) (sizes gas))

test-taken : (t : Test) → faulty (record_of t.result) ≡ false
test-taken t = not-faulty (record_of t.result) each
  where
    each : (gas : Gas) → (has_gas gas (record_of t.result) && faulty_ends (ends_at gas t.result.weighted)) ≡ false
    each gas = rw (has-gas t gas) (go (has t.sheet gas) (weighted-between t gas))
      where
        go : (b : Bool) → (b ≡ true → Between (ends_at gas t.result.weighted) (exact_weighted gas t.sheet t.values)) → (b && faulty_ends (ends_at gas t.result.weighted)) ≡ false
        go true h = taken-ends (ends_at gas t.result.weighted) (test-sized t gas) (ordered (h refl))
        go false h = refl

none-faulty : (at : ℕ) (ts : List Test) → first_fault at (records_of ts) ≡ none
none-faulty at [] = refl
none-faulty at (t ∷ ts) = rw (test-taken t) (none-faulty (suc at) ts)

-- no lot of at most 256 accepted tests is refused
pub tests-taken : (ts : List Test) → length (records_of ts) ≤ 256 → lot_answer (records_of ts) ≡ Ok (sheet_of (records_of ts))
unfolding lot_answer
tests-taken ts few = rw (le-leb (length (records_of ts)) most_records few, none-faulty 0 ts)
