-- The gear by tenths is the gear by the ends, and a speed is too close by the one where it is by the other, under both rule sets; and where nothing is marked no speed
-- is too close. Assumes nothing.
use mathlib.Core.Path.{◌≡◌, refl, sym, ap, ◌∙◌}
use mathlib.Core.Bool.{Bool, true, false, not, cond, ◌&&◌}
use mathlib.Core.List.{List}
use Prim.Native.Nat.{ℕ, suc, ◌+◌, ◌-◌, ◌*◌, ◌≤◌, ◌<◌}
use native.Mathlib.Omega.{arith}
use lib.Dec.{T, eqb, leb, ltb}
use lib.IntN.{ℤ, pos}
use lib.ListN.{get_or}
use lib.Signed.{◌≤ℤ◌, ◌<ℤ◌, lt_z, lt_z_yes}
use borrow.Author.Tests.{le-ltb, le-leb, lt-leb, leb-true, ltb-false}
use Rattle.walk.specs.Walk.{listed}
use Rattle.arith.specs.declared.Ends.{Ends}
use Rattle.arith.specs.Rounding.{div_up}
use Rattle.arith.proofs.Parts.{zs}
use Rattle.arith.proofs.Machine.{lt-true}
use Rattle.shift.specs.declared.Shift.{Shift}
use Rattle.shift.specs.Speeds.{left_of, side_at, below, above_at, close_at, count, tally_of, own_by, against, by_set1, below_second, by_set2, goes_first, own_gear, Own}
use Rattle.shift.specs.Accepted.{Worked}
use Rattle.shift.proofs.Counting.{count_same}
use Rattle.shift.proofs.Sets.{first, by-sets}
use Rattle.tenths.specs.declared.LeastTenths.{LeastTenths}
use Rattle.tenths.specs.Least.{from_zero, least_of, out_of_reach, least_at, first_of, tenths_of}
use Rattle.tenths.specs.Choice.{reached, held, above_held, not_below_held, close_by, own_by_tenths, mark_at, marked}
use Rattle.tenths.proofs.Places.{here, place_here, place-past}
use Rattle.tenths.proofs.Counting.{count_none, none-holds, count-rest, count-split, differ}
use Rattle.tenths.proofs.Comparing.{above-by-tenths, not-below-by-tenths, lowest-by-tenths}

-- how many of the shift speeds count: all ng - 1 in acceleration, and else all but the last
abbrev counted : ℕ → Bool → ℕ
counted gears true = gears - 1
counted gears false = gears - 2

-- seven places of which the first ng - 1 say what a test says of them, and the others are out of reach; and the last of those that say it
record Tells (least : List ℕ) (last gears speed : ℕ) (test : ℕ → Bool) : Type 0 where
  says : (i : ℕ) → i < gears - 1 → leb (get_or least i 0) speed ≡ test i
  rest : (i : ℕ) → gears - 1 ≤ i → i < 7 → leb (get_or least i 0) speed ≡ false
  top : leb last speed ≡ test (gears - 2)

module _ {least : List ℕ} {last gears speed : ℕ} {test : ℕ → Bool} (some : 3 ≤ gears) (few : gears ≤ 8) (t : Tells least last gears speed test) where
  reached-is : reached least speed 7 ≡ count test (gears - 1)
  unfolding reached
  reached-is =
      let all : 7 ≡ gears - 1 + (8 - gears) = omega arith in
      ap (count (λ i. leb (get_or least i 0) speed)) all
      ∙ count-rest _ (gears - 1) (8 - gears) (λ i a l. t.rest i a (omega arith))
      ∙ count_same _ test (gears - 1) t.says

  held-is : (accelerates : Bool) → held least last accelerates speed ≡ count test (counted gears accelerates)
  unfolding held
  held-is true = reached-is
  held-is false =
      let next : gears - 1 ≡ suc (gears - 2) = omega arith in
      let all : reached least speed 7 ≡ count test (gears - 2) + cond (test (gears - 2)) 1 0 = reached-is ∙ ap (count test) next in
      rw (t.top, all) (omega arith)

-- the ends of the sides are in order
pub record InOrder (s : Shift) : Type 0 where
  pub first : s.first.lower ≤ℤ s.first.upper
  pub higher : s.higher.lower ≤ℤ s.higher.upper

side-ordered : {s : Shift} → InOrder s → (i : ℕ) → (side_at s.first s.higher i).lower ≤ℤ (side_at s.first s.higher i).upper
side-ordered {s} o i = go (eqb i 0)
  where
    go : (b : Bool) → (cond b s.first s.higher).lower ≤ℤ (cond b s.first s.higher).upper
    go true = o.first
    go false = o.higher

apart : {l m u : ℤ} → l <ℤ m → u <ℤ l → m ≤ℤ u → ⊥
apart under over ordered = omega zs

-- ---- of a vehicle's tenths
module _ {s : Shift} (w : Worked s) (speed : ℕ) (slow : speed ≤ 2000) where
  abbrev side : ℕ → Ends
  side i = side_at s.first s.higher i

  abbrev ndv : ℕ → ℕ
  ndv i = get_or s.ndv i 0

  some : 3 ≤ s.gears
  some = w.ranges.some

  few : s.gears ≤ 8
  few = w.ranges.range.few

  ratio : (i : ℕ) → i < s.gears - 1 → 0 < ndv i
  ratio i l = let h = w.geared.ndvs i (omega arith) in omega arith

  -- one of the two least tenths, at all seven places
  tells : (pick : LeastTenths → ℕ) {test : ℕ → Bool} → 2000 < pick out_of_reach → ((i : ℕ) → i < s.gears - 1 → leb (pick (least_of (side i) (ndv i))) speed ≡ test i)
      → Tells (listed (λ i. pick (least_at s i)) 7) (pick (least_at s (s.gears - 2))) s.gears speed test
  tells pick far each =
      record {
        says = λ i l. ap (λ (t : ℕ). leb t speed) (place_here s i pick (omega (arith, few)) (omega arith)) ∙ each i l;
        rest = λ i a l. ap (λ (t : ℕ). leb t speed) (place-past s i pick l (omega arith)) ∙ lt-leb (pick out_of_reach) speed (omega arith);
        top =
            let there : s.gears - 2 < s.gears - 1 = omega (arith, some) in
            ap (λ (t : LeastTenths). leb (pick t) speed) (here s (s.gears - 2) (omega (arith, some))) ∙ each (s.gears - 2) there;
      }

  abbrev aboves : ℕ → Bool
  aboves = above_at s.first s.higher s.ndv speed

  abbrev not_belows : ℕ → Bool
  not_belows i = not (below speed (ndv i) (side i))

  above-held : (accelerates : Bool) → above_held (tenths_of s) accelerates speed ≡ count aboves (counted s.gears accelerates)
  unfolding tenths_of
  above-held = held-is some few (tells (λ (t : LeastTenths). t.above) (omega arith) (λ i l. above-by-tenths speed (ndv i) (ratio i l) (side i)))

  not-below-held : (accelerates : Bool) → not_below_held (tenths_of s) accelerates speed ≡ count not_belows (counted s.gears accelerates)
  unfolding tenths_of
  not-below-held = held-is some few (tells (λ (t : LeastTenths). t.not_below) (omega arith) (λ i l. not-below-by-tenths speed (ndv i) (ratio i l) (side i)))

  -- the shift speeds that count are there
  few-counted : (accelerates : Bool) → counted s.gears accelerates ≤ s.gears - 1
  few-counted true = omega arith
  few-counted false = omega arith

  -- rule set 2's gear 1
  first-by-tenths : ltb speed (first_of s) ≡ goes_first s false speed
  unfolding first_of below_second
  first-by-tenths = go (eqb s.rules 2)
    where
      go : (set2 : Bool) → ltb speed (cond set2 (from_zero (div_up (pos s.lowest) (pos (ndv 1)))) 0) ≡ ((set2 && true) && ltb (speed * ndv 1) s.lowest)
      go true = lowest-by-tenths speed s.lowest (ndv 1) (ratio 1 (omega (arith, some)))
      go false = le-ltb speed 0 (omega arith)

  -- too close by tenths, where the ends of the sides are in order: what is above is not below
  module _ (ordered : InOrder s) where
    not-both : (i : ℕ) → aboves i ≡ true → not_belows i ≡ true
    not-both i over = go (lt_z (left_of speed (ndv i)) (side i).lower) lt_z_yes
      where
        go : (t : Bool) → (T t → left_of speed (ndv i) <ℤ (side i).lower) → not t ≡ true
        go true under = absurd (apart (under tt) (lt-true over) (side-ordered ordered i))
        go false under = refl

    close-is : (accelerates : Bool) → close_by (tenths_of s) accelerates speed ≡ ltb 0 (count (close_at s.first s.higher s.ndv speed) (counted s.gears accelerates))
    unfolding tenths_of
    close-is accelerates =
        let n = counted s.gears accelerates in
        (λ j. not (eqb (above-held accelerates j) (not-below-held accelerates j)))
        ∙ differ (count aboves n) (count not_belows n) _ (count-split aboves not_belows n (λ i l. not-both i))

    -- rule set 1, and set 2 in acceleration
    as-set-1 : (accelerates : Bool) (base : ℕ)
        → record { gear = above_held (tenths_of s) accelerates speed + base; close = close_by (tenths_of s) accelerates speed }
        ≡ own_by (against s speed (counted s.gears accelerates)) base
    unfolding tally_of
    as-set-1 accelerates base = (λ j. record { gear = above-held accelerates j + base; close = close-is accelerates j })

    -- the law
    pub own-by-tenths : (accelerates : Bool) → own_by_tenths (tenths_of s) accelerates speed ≡ own_gear s accelerates speed
    unfolding own_by_tenths tenths_of own_gear by_set2 by_set1
    own-by-tenths true = as-set-1 true 1 ∙ go (eqb s.rules 2)
      where
        go : (set2 : Bool) → own_by (against s speed (s.gears - 1)) 1 ≡ cond set2 (by_set1 s true speed) (by_set1 s true speed)
        go true = refl
        go false = refl
    own-by-tenths false =
        (λ j. record { gear = cond (first-by-tenths j) 1 (as-set-1 false 2 j).gear; close = (as-set-1 false 2 j).close })
        ∙ go (goes_first s false speed) ∙ sym (by-sets s speed false)
      where
        own : Own
        own = own_by (against s speed (s.gears - 2)) 2

        go : (goes : Bool) → record { gear = cond goes 1 own.gear; close = own.close } ≡ cond goes (first own) own
        go true = refl
        go false = refl

    -- where no tenth is marked no speed is too close
    module _ (unmarked : marked (tenths_of s) ≡ false) where
      no-mark : (i : ℕ) → i < s.gears - 1 → (least_of (side i) (ndv i)).above ≤ (least_of (side i) (ndv i)).not_below
      unfolding marked tenths_of
      no-mark i l =
          let mark : ℕ → Bool = mark_at (tenths_of s).above (tenths_of s).not_below in
          let none : count mark 7 ≡ 0 = let h = ltb-false 0 (count mark 7) unmarked in omega arith in
          let at : i < 7 = omega (arith, few) in
          let e = place_here s i (λ (t : LeastTenths). t.above) at (omega arith) in
          let f = place_here s i (λ (t : LeastTenths). t.not_below) at (omega arith) in
          rw (sym e, sym f) (ltb-false _ _ (none-holds mark 7 none i at))

      not-close : (i : ℕ) → i < s.gears - 1 → close_at s.first s.higher s.ndv speed i ≡ false
      not-close i l =
          let over = sym (above-by-tenths speed (ndv i) (ratio i l) (side i)) in
          let upon = sym (not-below-by-tenths speed (ndv i) (ratio i l) (side i)) in
          (λ j. upon j && not (over j)) ∙ go (leb (least_of (side i) (ndv i)).not_below speed) (leb-true _ speed)
        where
          go : (t : Bool) → (t ≡ true → (least_of (side i) (ndv i)).not_below ≤ speed) → (t && not (leb (least_of (side i) (ndv i)).above speed)) ≡ false
          go true held = let h = held refl in let k = no-mark i l in rw (le-leb (least_of (side i) (ndv i)).above speed (omega arith))
          go false held = refl

      called : (accelerates : Bool) → close_by (tenths_of s) accelerates speed ≡ false
      called accelerates =
          let n = counted s.gears accelerates in
          let most = few-counted accelerates in
          close-is accelerates ∙ ap (ltb 0) (count_none (close_at s.first s.higher s.ndv speed) n (λ i l. not-close i (omega arith)))

      pub never-close : (accelerates : Bool) → (own_by_tenths (tenths_of s) accelerates speed).close ≡ false
      unfolding own_by_tenths
      never-close true = called true
      never-close false = called false
