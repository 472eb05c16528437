-- Corrections 1 to 5 taken one second at a time are those of the whole row: outside stops every second has the same gear, and a stop second is to the
-- one behind it what the last second of its run is, gear 1. Assumes nothing.
use mathlib.Core.Path.{◌≡◌, refl, sym, ap, ◌∙◌}
use mathlib.Core.Bool.{Bool, true, false}
use mathlib.Core.List.{List}
use Prim.Native.Nat.{ℕ, zero, suc, ◌+◌, ◌-◌, ◌*◌, ◌≤◌, ◌<◌}
use native.Mathlib.Numerals.{add-one}
use native.Mathlib.Omega.{arith}
use borrow.Author.Tests.{ne_eqb}
use lib.Dec.{eqb}
use lib.ListN.{length}
use Rattle.house.specs.House.{flags_at, stop, stop_at}
use Rattle.house.proofs.Phases.{one-phase}
use Rattle.row.specs.declared.Rule.{Rule}
use Rattle.row.specs.declared.Rule.TheVariants.{NoFirst, NoShift, NoDrop, OneStep}
use Rattle.row.specs.Row.{gear_at}
use Rattle.row.specs.Corrections.{uncapped, capped, cap_after, cap_runs, ruled, pass_by, five_row}
use Rattle.phase.specs.Phase.{stop_end, stop_gear, first_gear, first_row}
use Rattle.live.specs.declared.Live.{Live}
use Rattle.live.specs.Live.{seen, first, second, third, fourth, fifth, former_after, step, state_at, gear_of}
use Rattle.phase.proofs.Stops.{first-at, first-length, last-gear}
use Rattle.row.proofs.Passes.{cap_at, cap-first, cap-next, cap-at, cap-length, no-former, pass-first, pass-next, pass-length}
use Rattle.row.proofs.Ranges.{capped-stop, ruled-stop}

-- the whole row has x at second k of n, and the live engine y
pub record Same (trace : List ℕ) (n k x y : ℕ) : Type 0 where
  pub drives : stop_at trace k ≡ false → x ≡ y
  pub halts : stop_at trace k ≡ true → (x ≡ stop_gear (stop_end trace n k - k)) × (y ≡ 1)

cap-stop : (flags cap own : ℕ) → stop flags ≡ true → cap_after flags cap own ≡ uncapped
unfolding cap_after
cap-stop flags cap own e =
    rw (one-phase flags 0 1 (λ (z : 0 ≡ 1). omega arith) e, one-phase flags 0 3 (λ (z : 0 ≡ 3). omega arith) e)

module _ (trace : List ℕ) (n : ℕ) where
  same_by : (k : ℕ) {x x' y y' : ℕ} → x ≡ x' → y ≡ y' → Same trace n k x' y' → Same trace n k x y
  same_by k p q s = record { drives = λ e. p ∙ s.drives e ∙ sym q; halts = λ e. (p ∙ (s.halts e).0, q ∙ (s.halts e).1) }

  -- what a second outside stops sees before it
  pub seen_same : (k x y : ℕ) → suc k < n → stop_at trace (suc k) ≡ false → Same trace n k x y → x ≡ y
  seen_same k x y l drive s = go (stop_at trace k) refl
    where
      go : (b : Bool) → stop_at trace k ≡ b → x ≡ y
      go true halt = (s.halts halt).0 ∙ last-gear trace n k (omega arith) halt (λ below. ap (stop_at trace) (add-one k) ∙ drive) ∙ sym (s.halts halt).1
      go false drives = s.drives drives

  ruled-same : (rule : Rule) (first : Bool) (former k x y a b : ℕ) → (stop_at trace k ≡ false → x ≡ y) → Same trace n k a b
      → Same trace n k (ruled rule first former (flags_at trace k) x a) (ruled rule first former (flags_at trace k) y b)
  ruled-same rule first former k x y a b before s = record {
    drives = λ e. (λ i. ruled rule first former (flags_at trace k) (before e i) (s.drives e i));
    halts = λ e. (
      ruled-stop rule first former (flags_at trace k) x a e ∙ (s.halts e).0,
      ruled-stop rule first former (flags_at trace k) y b e ∙ (s.halts e).1,
    );
  }

  -- corrections 2 to 5: a is what the live engine has before the correction, b after it
  module _ (rule : Rule) (row : List ℕ) (room : 2 * n ≤ length row) (a b : ℕ → ℕ) (former before : ℕ)
      (same : (k : ℕ) → k < n → Same trace n k (gear_at row k) (a k))
      (starts : b 0 ≡ ruled rule true former (flags_at trace 0) before (a 0))
      (goes : (k : ℕ) → b (suc k) ≡ ruled rule false (flags_at trace k) (flags_at trace (suc k)) (b k) (a (suc k))) where
    pub pass_same : (k : ℕ) → k < n → Same trace n k (gear_at (pass_by rule trace row n) k) (b k)
    pass_same zero l =
        same_by 0 (pass-first rule trace row n room l ∙ no-former rule (flags_at trace 0) former (flags_at trace 0) (gear_at row 0) before (gear_at row 0)) starts
        (ruled-same rule true former 0 before before (gear_at row 0) (a 0) (λ e. refl) (same 0 l))
    pass_same (suc k) l =
        same_by (suc k) (pass-next rule trace row n room k l) (goes k)
        (ruled-same rule false (flags_at trace k) (suc k) (gear_at (pass_by rule trace row n) k) (b k) (gear_at row (suc k)) (a (suc k))
        (λ e. seen_same k (gear_at (pass_by rule trace row n) k) (b k) l e (pass_same k (omega arith))) (same (suc k) l))

  -- correction 1: c is the live engine's cap
  module _ (row : List ℕ) (room : 2 * n ≤ length row) (a c : ℕ → ℕ)
      (same : (k : ℕ) → k < n → Same trace n k (gear_at row k) (a k))
      (starts : c 0 ≡ uncapped)
      (goes : (k : ℕ) → c (suc k) ≡ cap_after (flags_at trace k) (c k) (a k)) where
    cap-same : (k : ℕ) → k ≤ n → cap_at trace row k ≡ c k
    cap-same zero l = cap-first trace row ∙ sym starts
    cap-same (suc k) l = cap-next trace row k ∙ go (stop_at trace k) refl (cap-same k (omega arith)) ∙ sym (goes k)
      where
        go : (b : Bool) → stop_at trace k ≡ b → cap_at trace row k ≡ c k → cap_after (flags_at trace k) (cap_at trace row k) (gear_at row k) ≡ cap_after (flags_at trace k) (c k) (a k)
        go true halt cap = cap-stop (flags_at trace k) (cap_at trace row k) (gear_at row k) halt ∙ sym (cap-stop (flags_at trace k) (c k) (a k) halt)
        go false drive cap =
            let gear = (same k (omega arith)).drives drive in
            (λ i. cap_after (flags_at trace k) (cap i) (gear i))

    pub capped_same : (k : ℕ) → k < n → Same trace n k (gear_at (cap_runs trace row n) k) (capped (flags_at trace k) (c k) (a k))
    capped_same k l = same_by k (cap-at trace row n k l room) refl (record {
      drives = λ e.
          let cap = cap-same k (omega arith) in
          let gear = (same k l).drives e in
          (λ i. capped (flags_at trace k) (cap i) (gear i));
      halts = λ e. (
        capped-stop (flags_at trace k) (cap_at trace row k) (gear_at row k) e ∙ ((same k l).halts e).0,
        capped-stop (flags_at trace k) (c k) (a k) e ∙ ((same k l).halts e).1,
      );
    })

  -- before corrections
  pub first-same : (own : ℕ → ℕ) (k : ℕ) → k < n → Same trace n k (gear_at (first_row own trace n) k) (seen (flags_at trace k) (own k))
  unfolding first_gear
  first-same own k l = same_by k (first-at own trace n k l) refl (record {
    drives = λ e. rw e;
    halts = λ e. (rw e, rw e);
  })

-- ---- the live engine
module _ (own : ℕ → ℕ) (trace : List ℕ) where
  abbrev state : ℕ → Live
  state = state_at own trace

  -- the gear of second k after corrections 1 to 5
  abbrev pub gear_live : ℕ → ℕ
  gear_live k = gear_of (state k) (flags_at trace k) (own k)

  pub received_is : (k : ℕ) → (state k).received ≡ k
  unfolding step
  received_is zero = refl
  received_is (suc k) = ap (λ (m : ℕ). m + 1) (received_is k) ∙ add-one k

  starting : (k : ℕ) → eqb (state (suc k)).received 0 ≡ false
  starting k =
      let is = received_is (suc k) in
      ne_eqb (state (suc k)).received 0 (λ (e : (state (suc k)).received ≡ 0). omega arith)

  -- its gears on the way there
  abbrev firsts : ℕ → ℕ
  firsts k = first (state k).former (flags_at trace k) (own k)

  abbrev seconds : ℕ → ℕ
  seconds k = second (eqb (state k).received 0) (state k).former (flags_at trace k) (own k)

  abbrev thirds : ℕ → ℕ
  thirds k = third (eqb (state k).received 0) (state k).former (flags_at trace k) (own k)

  abbrev fourths : ℕ → ℕ
  fourths k = fourth (eqb (state k).received 0) (state k).former (flags_at trace k) (own k)

  seconds-next : (k : ℕ) → seconds (suc k) ≡ ruled NoFirst false (flags_at trace k) (flags_at trace (suc k)) (seconds k) (firsts (suc k))
  unfolding second step former_after ruled
  seconds-next k = ap (λ (b : Bool). ruled NoFirst b (flags_at trace k) (flags_at trace (suc k)) 0 (firsts (suc k))) (starting k)

  thirds-next : (k : ℕ) → thirds (suc k) ≡ ruled NoShift false (flags_at trace k) (flags_at trace (suc k)) (thirds k) (seconds (suc k))
  unfolding third step former_after
  thirds-next k = ap (λ (b : Bool). ruled NoShift b (flags_at trace k) (flags_at trace (suc k)) (thirds k) (seconds (suc k))) (starting k)

  fourths-next : (k : ℕ) → fourths (suc k) ≡ ruled NoDrop false (flags_at trace k) (flags_at trace (suc k)) (fourths k) (thirds (suc k))
  unfolding fourth step former_after
  fourths-next k = ap (λ (b : Bool). ruled NoDrop b (flags_at trace k) (flags_at trace (suc k)) (fourths k) (thirds (suc k))) (starting k)

  fifths-next : (k : ℕ) → gear_live (suc k) ≡ ruled OneStep false (flags_at trace k) (flags_at trace (suc k)) (gear_live k) (fourths (suc k))
  unfolding fifth step former_after
  fifths-next k = ap (λ (b : Bool). ruled OneStep b (flags_at trace k) (flags_at trace (suc k)) (gear_live k) (fourths (suc k))) (starting k)

  -- the whole row after correction 5
  module _ (n : ℕ) where
    abbrev pub before_six : List ℕ
    before_six = five_row trace (first_row own trace n) n

    pub five-length : length before_six ≡ 2 * n
    five-length =
        let row₀ = first_row own trace n in
        let row₁ = cap_runs trace row₀ n in
        let row₂ = pass_by NoFirst trace row₁ n in
        let row₃ = pass_by NoShift trace row₂ n in
        let row₄ = pass_by NoDrop trace row₃ n in
        pass-length OneStep trace row₄ n
        ∙ pass-length NoDrop trace row₃ n
        ∙ pass-length NoShift trace row₂ n
        ∙ pass-length NoFirst trace row₁ n
        ∙ cap-length trace row₀ n
        ∙ first-length own trace n

    pub five-same : (k : ℕ) → k < n → Same trace n k (gear_at before_six k) (gear_live k)
    unfolding first second third fourth fifth step former_after
    five-same =
        let row₀ = first_row own trace n in
        let row₁ = cap_runs trace row₀ n in
        let row₂ = pass_by NoFirst trace row₁ n in
        let row₃ = pass_by NoShift trace row₂ n in
        let row₄ = pass_by NoDrop trace row₃ n in
        let long₀ : 2 * n ≤ length row₀ = omega (arith, first-length own trace n) in
        let long₁ : 2 * n ≤ length row₁ = omega (arith, cap-length trace row₀ n) in
        let long₂ : 2 * n ≤ length row₂ = omega (arith, pass-length NoFirst trace row₁ n) in
        let long₃ : 2 * n ≤ length row₃ = omega (arith, pass-length NoShift trace row₂ n) in
        let long₄ : 2 * n ≤ length row₄ = omega (arith, pass-length NoDrop trace row₃ n) in
        let same₁ = capped_same trace n row₀ long₀ (λ k. seen (flags_at trace k) (own k)) (λ k. (state k).former.cap) (first-same trace n own) refl (λ k. refl) in
        let same₂ = pass_same trace n NoFirst row₁ long₁ firsts seconds 0 0 same₁ refl seconds-next in
        let same₃ = pass_same trace n NoShift row₂ long₂ seconds thirds 0 0 same₂ refl thirds-next in
        let same₄ = pass_same trace n NoDrop row₃ long₃ thirds fourths 0 0 same₃ refl fourths-next in
        pass_same trace n OneStep row₄ long₄ fourths gear_live 0 0 same₄ refl fifths-next
