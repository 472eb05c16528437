-- The counts of a gas add up to the number of its entries, a tally is what one entry after the other makes of none, and what it comes to is what the entries
-- give. Assumes nothing.
use mathlib.Core.Path.{◌≡◌, refl, ap, ◌∙◌, subst}
use mathlib.Core.Bool.{Bool, true, false, not, ◌||◌}
use mathlib.Core.List.{List, [], ◌∷◌}
use Prim.Native.Nat.{ℕ, suc, ◌+◌, ◌-◌, ◌≤◌}
use native.Mathlib.Omega.{arith}
use borrow.Author.Tests.{eqb-true, ne_eqb}
use lib.Dec.{T, eqb}
use lib.ListN.{length}
use lib.IntN.{pos}
use Rattle.arith.specs.Fitting.{Sized}
use Rattle.arith.proofs.Size.{sum-size, wider-size, exactly-size}
use Rattle.tally.specs.declared.Tally.{Tally}
use Rattle.tally.specs.Entries.{Entry, plus_if, how_many, passes, fails, undecides, most_end, mean_of, gas_sheet}
use Rattle.tally.specs.Kept.{tally_of, no_tally, added_to, mean_by, gas_sheet_by}
use Rattle.tally.specs.Room.{Roomy}

-- a verdict is a pass, a fail or undecided, and one of them only
one_more : (p f : Bool) (a b c : ℕ) → (p ≡ true → f ≡ false) → plus_if p a + plus_if f b + plus_if (not (p || f)) c ≡ suc (a + b + c)
one_more true true a b c h = absurd (subst T (h refl) tt)
one_more true false a b c h = omega arith
one_more false true a b c h = omega arith
one_more false false a b c h = omega arith

apart : (v : ℕ) → eqb v 1 ≡ true → eqb v 2 ≡ false
apart v e = rw (eqb-true v 1 e)

-- "The three counts add up to the number of records"
pub counts-add-up : (es : List Entry) → how_many passes es + how_many fails es + how_many undecides es ≡ length es
counts-add-up [] = refl
counts-add-up (e ∷ es) =
    one_more (passes e) (fails e) (how_many passes es) (how_many fails es) (how_many undecides es) (apart e.verdict) ∙ ap suc (counts-add-up es)

-- ---- one entry more
pub added-one : (e : Entry) (es : List Entry) → added_to e (tally_of es) ≡ tally_of (e ∷ es)
unfolding added_to tally_of
added-one e es = let more : length es + 1 ≡ suc (length es) = omega arith in rw more

-- ---- room
pub no_room : Roomy 0 no_tally
unfolding no_tally tally_of
no_room = record { counted = omega arith; few = omega arith; sums = exactly-size (pos 0) (omega arith) }

pub added-room : (m : ℕ) (e : Entry) (t : Tally) → Sized most_end e.ends → Roomy m t → Roomy (suc m) (added_to e t)
unfolding added_to
added-room m e t h r =
    let one = one_more (passes e) (fails e) t.passed t.failed 0 (apart e.verdict) in
    record {
      counted = omega (arith, one, r.counted);
      few = omega (arith, r.few);
      sums = wider-size (omega arith) (sum-size h r.sums);
    }

pub wider-tally : {m k : ℕ} {t : Tally} → m ≤ k → Roomy m t → Roomy k t
wider-tally h r = record { counted = r.counted; few = omega (arith, r.few); sums = wider-size (omega arith) r.sums }

-- ---- what it comes to
mean-is : (es : List Entry) → mean_by (tally_of es) ≡ mean_of es
unfolding mean_by tally_of
mean-is [] = refl
mean-is (e ∷ es) =
    let some : length (e ∷ es) ≡ 0 → ⊥ = λ h. omega arith in
    rw (ne_eqb (length (e ∷ es)) 0 some)

pub gas-is : (es : List Entry) → gas_sheet_by (tally_of es) ≡ gas_sheet es
unfolding gas_sheet_by gas_sheet tally_of
gas-is es =
    let rest : length es - (how_many passes es + how_many fails es) ≡ how_many undecides es = omega (arith, counts-add-up es) in
    rw (mean-is es, rest)
