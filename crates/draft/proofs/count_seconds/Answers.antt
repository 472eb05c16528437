-- `count_seconds` meets its contract: a second that is to be listed adds one to the count, and any other nothing.
use mir.Val.{bool_byte}
use Rattle.std.proofs.Common.{◌≡◌, ◌+◌, ◌<◌, ℕ, Bool, true, false, cond, List, length, refl, sym, ap, ◌∙◌, arith}
use Rattle.house.specs.House.{count_of}
use Rattle.draft.specs.declared.Gap.{Gap}
use Rattle.draft.specs.Draft.{listed_at, seconds_where}
use Rattle.draft.specs.Gap.{gap_of, listed_by}
use Rattle.draft.proofs.Gaps.{gap-next, listed_by_lem}
use Rattle.draft.proofs.Lists.{where-none, count-on, count_most}
use Rattle.draft.proofs.count_seconds.Goals as goal

byte : (b : Bool) → bool_byte b ≡ cond b 1 0
byte true = refl
byte false = refl

-- the count with this second
counted : (draft : List ℕ) (changed listed : Bool) (k count : ℕ) {gap : Gap} {more : ℕ} → k < count_of draft → gap ≡ gap_of draft k → listed ≡ listed_by gap k changed
    → more ≡ bool_byte listed → count ≡ length (seconds_where (listed_at draft changed) k) → count + more ≡ length (seconds_where (listed_at draft changed) (k + 1))
counted draft changed listed k count l found is added before =
    let here : listed ≡ listed_at draft changed k = is ∙ ap (λ (gap : Gap). listed_by gap k changed) found ∙ listed_by_lem draft k changed l in
    (λ i. before i + (added ∙ byte listed) i) ∙ sym (count-on (listed_at draft changed) k (sym here))

pub loop-k-init : goal.loop-k-init
loop-k-init c = (refl, sym (ap length (where-none (listed_at c.args.draft.file.bytes.now c.args.changed))))

pub overflow_add-count : goal.overflow_add-count
overflow_add-count c =
    let most = count_most (listed_at c.args.draft.file.bytes.now c.args.changed) (c.loop-k.k + 1) in
    let more =
    counted c.args.draft.file.bytes.now c.args.changed c.is_listed.result c.loop-k.k c.loop-k.count (omega (arith, c.args.draft.drafted.is)) c.gap_at-gap.ensures c.is_listed.ensures c.from-count.ensures c.loop-k.invariant.1 in
    omega (arith, more, most, c.args.draft.drafted.few)

pub loop-k-preserved : goal.loop-k-preserved
loop-k-preserved c = (
  gap-next c.args.draft.file.bytes.now c.loop-k.k c.gap_at-gap.ensures,
  counted c.args.draft.file.bytes.now c.args.changed c.is_listed.result c.loop-k.k c.loop-k.count (omega (arith, c.args.draft.drafted.is)) c.gap_at-gap.ensures c.is_listed.ensures c.from-count.ensures c.loop-k.invariant.1,
)

pub returns : goal.returns
returns c =
    let listed = listed_at c.args.draft.file.bytes.now c.args.changed in
    let all : c.loop-k.k ≡ count_of c.args.draft.file.bytes.now = omega (arith, c.args.draft.drafted.is) in
    let is = c.loop-k.invariant.1 ∙ ap (λ (k : ℕ). length (seconds_where listed k)) all in
    let most = count_most listed (count_of c.args.draft.file.bytes.now) in
    (is, omega (arith, is, most, c.args.draft.drafted.is))
