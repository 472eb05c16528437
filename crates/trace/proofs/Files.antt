-- 1 to 3 of a file, which has a head or not, and then its seconds: one stage after the other, and what is so where both accept. Assumes nothing.
use mathlib.Core.Path.{◌≡◌}
use mathlib.Core.Bool.{Bool, true}
use mathlib.Core.List.{List, [], ◌∷◌}
use Prim.Native.Nat.{ℕ, ◌+◌, ◌*◌, ◌≤◌}
use lib.ListN.{length}
use lib.Dec.{eqb, leb}
use borrow.Author.Tests.{leb-true, le-leb, eqb-true, eq-eqb}
use Rattle.std.specs.Prelude.{Ok}
use Rattle.refusal.specs.Judging.{Judged, checked, Check, and_then}
use Rattle.refusal.specs.declared.Refusal.TheVariants.{Header, Count, Length}
use Rattle.refusal.proofs.Ranges.{both}
use Rattle.refusal.proofs.Judging.{checked-holds, checked_all-then}
use Rattle.house.specs.House.{count_of}
use Rattle.trace.specs.Judging.{countable, judge_file}

module _ (known : Bool) (file : List ℕ) (seconds : Judged) where
  abbrev checks : List Check
  checks =
      record { holds = known; refusal = Header }
      ∷ record { holds = countable (count_of file); refusal = Count }
      ∷ record { holds = eqb (length file) (8 + 4 * count_of file); refusal = Length }
      ∷ []

  pub seconds-then : judge_file known file seconds ≡ and_then (judge_file known file (Ok tt)) seconds
  seconds-then = checked_all-then checks seconds

  pub record Passed : Type 0 where
    pub head : known ≡ true
    pub some : 1 ≤ count_of file
    pub few : count_of file ≤ 2000
    pub exact : length file ≡ 8 + 4 * count_of file
    pub all : seconds ≡ Ok tt

  pub passed : judge_file known file seconds ≡ Ok tt → Passed
  passed e =
      let n = count_of file in
      let lengths = checked (eqb (length file) (8 + 4 * n)) Length seconds in
      let counts = checked (countable n) Count lengths in
      let past_head = checked-holds known Header counts e in
      let past-count = checked-holds (countable n) Count lengths past_head.1 in
      let past-length = checked-holds (eqb (length file) (8 + 4 * n)) Length seconds past-count.1 in
      let counted = both (leb 1 n) (leb n 2000) past-count.0 in
      record {
        head = past_head.0;
        some = leb-true 1 n counted.0;
        few = leb-true n 2000 counted.1;
        exact = eqb-true (length file) (8 + 4 * n) past-length.0;
        all = past-length.1;
      }

  -- and the other way round
  pub file-taken : known ≡ true → 1 ≤ count_of file → count_of file ≤ 2000 → length file ≡ 8 + 4 * count_of file → judge_file known file seconds ≡ seconds
  file-taken head some few exact =
      rw (head, le-leb 1 (count_of file) some, le-leb (count_of file) 2000 few, eq-eqb (length file) (8 + 4 * count_of file) exact)
