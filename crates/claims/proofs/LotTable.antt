-- Every refusal of the lot sheet exactly: what is given is the first line of the table that fails, 18 before 21, and of 21 the earliest record's. Assumes nothing.
use mathlib.Core.Path.{◌≡◌, refl}
use mathlib.Core.Bool.{Bool, true, false, not, cond, ◌&&◌, ◌||◌}
use mathlib.Core.List.{List, [], ◌∷◌}
use mathlib.Core.Option.{some}
use Prim.Native.Nat.{ℕ, suc}
use native.Mathlib.Omega.{arith}
use lib.Dec.{leb}
use lib.ListN.{length}
use lib.IntN.{ℤ, pos}
use lib.Signed.{le_z, lt_z, clash_ℤ}
use Rattle.arith.proofs.Machine.{lt-true, lt-false, le-true}
use Rattle.sides.specs.Gases.{ends_at}
use Rattle.record.specs.declared.Record.{Record}
use Rattle.tally.specs.Entries.{most_end, least_end, beyond, faulty_ends}
use Rattle.lot.specs.declared.LotSheet.{LotSheet}
use Rattle.std.specs.Prelude.{Err}
use Rattle.refusal.specs.declared.Gas.{Gas}
use Rattle.refusal.specs.declared.Gas.TheVariants.{HC, CO, NOx, CO2, NMHC}
use Rattle.refusal.specs.declared.Refusal.TheVariants.{LotSize}
use Rattle.lot.specs.Lot.{sheet_of, faulty, first_fault, on_fault, lot_answer}
use Rattle.lot_crossing.specs.Lot.{sheet_out, refused_out, lot_out}
use Rattle.claims.specs.Table.{outcome, first_of, Exactly, rising, taken, taken_record, without, record_lines, lot_table}
use Rattle.claims.proofs.Table.{decides, rising-numbered, further}
use Rattle.claims.proofs.Verdicts.{above}

-- ---- a line holds where the core finds no fault
at_most : (a b : ℤ) → le_z a b ≡ not (lt_z b a)
at_most a b = go (le_z a b) (lt_z b a) refl refl
  where
    go : (s t : Bool) → le_z a b ≡ s → lt_z b a ≡ t → s ≡ not t
    go true true e f = clash_ℤ (lt-true {a = b} {b = a} f) (le-true e)
    go true false e f = refl
    go false true e f = refl
    go false false e f = clash_ℤ (above {a = a} {b = b} e) (lt-false f)

neither : (s t : Bool) → not (s || t) ≡ (not s && not t)
neither true t = refl
neither false t = refl

unread : (s t : Bool) → not (not s && t) ≡ (s || not t)
unread true t = refl
unread false t = refl

module _ (r : Record) where
  taken_is : (gas : Gas) → taken gas r ≡ not (faulty_ends (ends_at gas r.weighted))
  unfolding faulty_ends
  taken_is gas =
      let l = (ends_at gas r.weighted).lower in
      let u = (ends_at gas r.weighted).upper in
      rw (
        at_most l u,
        at_most least_end l,
        at_most l (pos most_end),
        at_most least_end u,
        at_most u (pos most_end),
        neither (lt_z u l) (beyond l || beyond u),
        neither (beyond l) (beyond u),
        neither (lt_z l least_end) (lt_z (pos most_end) l),
        neither (lt_z u least_end) (lt_z (pos most_end) u),
      )

  line-is : taken_record r ≡ not (faulty r)
  unfolding faulty
  line-is =
      let at : Gas → Bool = λ gas. faulty_ends (ends_at gas r.weighted) in
      let nmhc : Bool = not (without r) && at NMHC in
      rw (
        taken_is HC,
        taken_is CO,
        taken_is NOx,
        taken_is CO2,
        taken_is NMHC,
        neither (at HC) (at CO || (at NOx || (at CO2 || nmhc))),
        neither (at CO) (at NOx || (at CO2 || nmhc)),
        neither (at NOx) (at CO2 || nmhc),
        neither (at CO2) nmhc,
        unread (without r) (at NMHC),
      )

-- ---- the lines in their order
lines-first : (k : ℕ) (rs : List Record) (s : LotSheet) → (lot_out (on_fault (first_fault k rs) s)).outcome ≡ first_of (record_lines k rs)
unfolding sheet_out refused_out
lines-first k [] s = refl
lines-first k (r ∷ rs) s = rw (line-is r) (go (faulty r) (lines-first (suc k) rs s))
  where
    go : (t : Bool) → (lot_out (on_fault (first_fault (suc k) rs) s)).outcome ≡ first_of (record_lines (suc k) rs)
        → (lot_out (on_fault (cond t (some k) (first_fault (suc k) rs)) s)).outcome ≡ cond (not t) (first_of (record_lines (suc k) rs)) (outcome 21 k 0 0)
    go true later = refl
    go false later = later

rising-records : (k : ℕ) (rs : List Record) → rising (outcome 21 k 0 0) (record_lines (suc k) rs) ≡ true
rising-records k [] = refl
rising-records k (r ∷ rs) = rw (further 21 k (suc k) (omega arith)) (rising-records (suc k) rs)

module _ (rs : List Record) where
  -- 18 before 21, and of 21 the earliest record
  pub lot-rising : rising (outcome 18 0 0 0) (lot_table rs) ≡ true
  lot-rising = go rs
    where
      go : (rs : List Record) → rising (outcome 18 0 0 0) (record_lines 0 rs) ≡ true
      go [] = refl
      go (r ∷ rs) = rising-records 0 rs

  lot-first : (lot_out (lot_answer rs)).outcome ≡ first_of (lot_table rs)
  unfolding lot_answer refused_out
  lot-first = go (leb (length rs) 256) (lines-first 0 rs (sheet_of rs))
    where
      go : (t : Bool) → (lot_out (on_fault (first_fault 0 rs) (sheet_of rs))).outcome ≡ first_of (record_lines 0 rs)
          → (lot_out (cond t (on_fault (first_fault 0 rs) (sheet_of rs)) (Err LotSize))).outcome ≡ cond t (first_of (record_lines 0 rs)) (outcome 18 0 0 0)
      go true later = later
      go false later = refl

  pub lot-exactly : Exactly (lot_out (lot_answer rs)).outcome (lot_table rs)
  lot-exactly = rw lot-first (decides (lot_table rs) (rising-numbered (outcome 18 0 0 0) (lot_table rs) (omega arith) lot-rising))
