-- Where a turn of the loop of `lot_sheet` begins, and what is kept by then: the facts about lists that its proof asks for. Assumes nothing.
use mathlib.Core.Path.{◌≡◌, refl, ap, sym, ◌∙◌}
use mathlib.Core.Bool.{Bool, true, false, cond}
use mathlib.Core.List.{List, [], ◌∷◌}
use Prim.Native.Nat.{ℕ, zero, suc, ◌-◌, ◌≤◌, ◌<◌}
use native.Mathlib.Omega.{arith}
use borrow.Author.Tests.{leb-true}
use lib.Dec.{leb}
use lib.ListN.{length, get_or, take, drop}
use lib.Seq.{take-length}
use lib.IntN.{pos}
use Rattle.arith.specs.declared.Ends.{Ends}
use Rattle.refusal.specs.declared.Refusal.TheVariants.{LotSize}
use Rattle.record.specs.declared.Record.{Record}
use Rattle.std.specs.Prelude.{Err, Result}
use Rattle.lot.specs.declared.Tallies.{Tallies}
use Rattle.lot.specs.Lot.{sheet_of, first_fault, most_records, on_fault, lot_answer}
use Rattle.lot.specs.Kept.{running_from, nothing, joined_to, records_read, answer_by, finished_by}
use Rattle.lot.specs.Room.{RoomyRun}
use Rattle.lot.proofs.Kept.{running-step, running_none, running-room, wider-room, answer-of-all}

pub read-bounds : (n : ℕ) → (records_read n ≤ n) × (records_read n ≤ 256)
read-bounds n = go (leb n most_records) (leb-true n most_records)
  where
    go : (t : Bool) → (t ≡ true → n ≤ most_records) → (cond t n 0 ≤ n) × (cond t n 0 ≤ 256)
    go true h = let k = h refl in (omega arith, omega arith)
    go false h = (omega arith, omega arith)

-- what lies past the end of a list
abbrev none : Ends
none = record { lower = pos 0; upper = pos 0 }

abbrev pub blank : Record
blank =
    record {
      weighted = record { hc = none; co = none; nox = none; co2 = none; nmhc = none };
      verdicts = record { hc = 0; co = 0; nox = 0; co2 = 0; nmhc = 0 };
      has_nmhc = 0;
    }

-- ---- of the first m records, those from j on
drop-next : (rs : List Record) (m j : ℕ) → j < m → m ≤ length rs → drop j (take m rs) ≡ get_or rs j blank ∷ drop (suc j) (take m rs)
drop-next [] m j h k = absurd (omega arith)
drop-next (r ∷ rs) zero j h k = absurd (omega arith)
drop-next (r ∷ rs) (suc m) zero h k = refl
drop-next (r ∷ rs) (suc m) (suc j) h k = drop-next rs m j (omega arith) (omega arith)

drop-short : (rs : List Record) (m j : ℕ) → length (drop j (take m rs)) ≤ m - j
drop-short [] zero zero = omega arith
drop-short [] zero (suc j) = omega arith
drop-short [] (suc m) zero = omega arith
drop-short [] (suc m) (suc j) = omega arith
drop-short (r ∷ rs) zero zero = omega arith
drop-short (r ∷ rs) zero (suc j) = omega arith
drop-short (r ∷ rs) (suc m) zero = let h = drop-short rs m zero in omega arith
drop-short (r ∷ rs) (suc m) (suc j) = let h = drop-short rs m j in omega arith

drop_all : (m : ℕ) (rs : List Record) → drop m (take m rs) ≡ []
drop_all zero [] = refl
drop_all zero (r ∷ rs) = refl
drop_all (suc m) [] = refl
drop_all (suc m) (r ∷ rs) = drop_all m rs

-- ---- what is kept where the records from i on have been read
abbrev pub kept : List Record → ℕ → Result Tallies ℕ
kept rs i = running_from i (drop i (take (records_read (length rs)) rs))

pub kept-none : (rs : List Record) → nothing ≡ kept rs (records_read (length rs))
kept-none rs = rw (drop_all (records_read (length rs)) rs) (sym (running_none (records_read (length rs))))

pub kept-before : (rs : List Record) (i : ℕ) → 0 < i → i ≤ records_read (length rs) → joined_to (i - 1) (get_or rs (i - 1) blank) (kept rs i) ≡ kept rs (i - 1)
kept-before rs zero h k = absurd (omega arith)
kept-before rs (suc j) h k =
    let one : suc j - 1 ≡ j = omega arith in
    let m = records_read (length rs) in
    rw one
    (sym (ap (running_from j) (drop-next rs m j (omega arith) (read-bounds (length rs)).0) ∙ running-step j (get_or rs j blank) (drop (suc j) (take m rs))))

room_at : (rs : List Record) (i k : ℕ) → records_read (length rs) - i ≤ k → RoomyRun k (kept rs i)
room_at rs i k h =
    let rest = drop i (take (records_read (length rs)) rs) in
    let s = drop-short rs (records_read (length rs)) i in
    wider-room (length rest) k (kept rs i) (omega arith) (running-room i rest)

pub kept-room : (rs : List Record) (i : ℕ) → RoomyRun 256 (kept rs i)
kept-room rs i = let b = read-bounds (length rs) in room_at rs i 256 (omega arith)

-- room for one more
pub kept_less : (rs : List Record) (i : ℕ) → 0 < i → RoomyRun 255 (kept rs i)
kept_less rs i h = let b = read-bounds (length rs) in room_at rs i 255 (omega arith)

-- ---- where all have been read
pub answer-is : (rs : List Record) → finished_by (length rs) (kept rs 0) ≡ lot_answer rs
unfolding finished_by lot_answer
answer-is rs = go (leb (length rs) most_records)
  where
    go : (t : Bool) → cond t (answer_by (running_from 0 (take (cond t (length rs) 0) rs))) (Err LotSize) ≡ cond t (on_fault (first_fault 0 rs) (sheet_of rs)) (Err LotSize)
    go true = rw (take-length rs) (answer-of-all rs)
    go false = refl
