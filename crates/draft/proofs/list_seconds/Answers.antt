-- `list_seconds` meets its contract: a second that is to be listed has room behind those before it, and any other leaves the list as it was.
use Rattle.std.proofs.Common.{◌≡◌, ◌≤◌, ◌+◌, ◌<◌, ◌++◌, ℕ, Bool, true, cond, List, length, drop, refl, sym, ap, ◌∙◌, arith}
use Rattle.house.specs.House.{count_of}
use Rattle.draft.specs.declared.Gap.{Gap}
use Rattle.draft.specs.Draft.{listed_at, seconds_where}
use Rattle.draft.specs.Gap.{gap_of, listed_by}
use Rattle.draft.proofs.Gaps.{gap-next, listed_by_lem}
use Rattle.draft.proofs.Lists.{where-none, count-on, count_most, room-left, list_on}
use Rattle.draft.proofs.list_seconds.Goals as goal

module _ (draft : List ℕ) (changed : Bool) (k : ℕ) (l : k < count_of draft) where
  abbrev listed_of : ℕ → Bool
  listed_of = listed_at draft changed

  -- the second as it is judged
  is-listed : {gap : Gap} {listed : Bool} → gap ≡ gap_of draft k → listed ≡ listed_by gap k changed → listed_of k ≡ listed
  is-listed found is = sym (is ∙ ap (λ (gap : Gap). listed_by gap k changed) found ∙ listed_by_lem draft k changed l)

  -- where it is to be listed, there is room
  has_room : {listed : Bool} (at room : ℕ) → listed_of k ≡ listed → at ≡ length (seconds_where listed_of k)
      → length (seconds_where listed_of (count_of draft)) ≤ room → listed ≡ true → at < room
  has_room at room is count fits e =
      let left = room-left listed_of k (count_of draft) room l (is ∙ e) fits in
      omega (arith, left, count)

pub loop-k-init : goal.loop-k-init
loop-k-init c =
    let none = where-none (listed_at c.args.draft.file.bytes.now c.args.changed) in
    (refl, refl, sym (ap length none), sym (ap (λ (l : List ℕ). l ++ c.args.list.now) none))

pub list_second-at-requires : goal.list_second-at-requires
list_second-at-requires c =
    let draft = c.args.draft.file.bytes.now in
    let inside : c.loop-k.k < count_of draft = omega (arith, c.args.draft.drafted.is) in
    let is = is-listed draft c.args.changed c.loop-k.k inside c.gap_at-gap.ensures c.is_listed-listed.ensures in
    let most = count_most (listed_at draft c.args.changed) c.loop-k.k in (
      omega (arith, most, c.loop-k.invariant.2, c.args.draft.drafted.few),
      (λ e. has_room draft c.args.changed c.loop-k.k inside c.loop-k.at (length c.loop-k.list) is c.loop-k.invariant.2 (omega (arith, c.requires, c.loop-k.invariant.1)) e),
    )

pub loop-k-preserved : goal.loop-k-preserved
loop-k-preserved c =
    let draft = c.args.draft.file.bytes.now in
    let list = c.args.list.now in
    let k = c.loop-k.k in
    let listed = listed_at draft c.args.changed in
    let inside : k < count_of draft = omega (arith, c.args.draft.drafted.is) in
    let is = is-listed draft c.args.changed k inside c.gap_at-gap.ensures c.is_listed-listed.ensures in
    let count = c.list_second-at.ensures.0 in (
      gap-next draft k c.gap_at-gap.ensures,
      c.list_second-at.auto.list ∙ c.loop-k.invariant.1,
      count ∙ ap (λ (n : ℕ). n + cond c.is_listed-listed.result 1 0) c.loop-k.invariant.2 ∙ sym (count-on listed k is),
      c.list_second-at.ensures.1
          ∙ list_on listed list k c.loop-k.at c.loop-k.invariant.2 c.loop-k.invariant.3 is
          (has_room draft c.args.changed k inside c.loop-k.at (length list) is c.loop-k.invariant.2 c.requires)
          ∙ (λ i. seconds_where listed (k + 1) ++ drop (sym count i) list),
    )
