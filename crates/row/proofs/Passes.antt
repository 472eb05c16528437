-- What corrections 1 to 5 make of a row, second by second: each second is changed once, at its turn, from its own gear and from the gear that the second
-- before it is left with. Assumes nothing.
use mathlib.Core.Path.{◌≡◌, refl, sym, ap, ◌∙◌}
use mathlib.Core.Bool.{Bool, true, false, cond, ◌&&◌}
use mathlib.Core.List.{List}
use Prim.Native.Nat.{ℕ, suc, ◌-◌, ◌*◌, ◌≤◌, ◌<◌}
use native.Mathlib.Omega.{arith}
use borrow.Author.Tests.{ne_eqb}
use lib.Dec.{eqb}
use lib.ListN.{length}
use Rattle.walk.specs.Walk.{in_turn}
use Rattle.walk.proofs.Stores.{Storing, stores-length, not_yet, stored}
use Rattle.house.specs.House.{flags_at, stop, acceleration, no_shift}
use Rattle.row.specs.declared.Rule.{Rule}
use Rattle.row.specs.declared.Rule.TheVariants.{NoFirst, NoShift, NoDrop, OneStep}
use Rattle.row.specs.Row.{gear_at}
use Rattle.row.specs.Corrections.{uncapped, capped, cap_after, cap_step, cap_runs, ruled, rule_step, pass_by}

-- ---- correction 1
abbrev capping : List ℕ → Storing (List ℕ × ℕ)
capping trace = record {
  bytes = λ state. state.0;
  step = cap_step trace;
  place = λ k. 2 * k;
  new = λ state k. capped (flags_at trace k) state.1 (gear_at state.0 k);
  stores = λ state k. refl;
  apart = λ j k e. omega arith;
}

module _ (trace row : List ℕ) where
  -- the cap of a second
  pub cap_at : ℕ → ℕ
  cap_at k = (in_turn (cap_step trace) (row, uncapped) k).1

  own-yet : (k : ℕ) → gear_at (cap_runs trace row k) k ≡ gear_at row k
  own-yet k = not_yet (capping trace) (row, uncapped) k k (omega arith)

  pub cap-first : cap_at 0 ≡ uncapped
  unfolding cap_at
  cap-first = refl

  pub cap-next : (k : ℕ) → cap_at (suc k) ≡ cap_after (flags_at trace k) (cap_at k) (gear_at row k)
  unfolding cap_at
  cap-next k = ap (cap_after (flags_at trace k) (cap_at k)) (own-yet k)

  pub cap-at : (n k : ℕ) → k < n → 2 * n ≤ length row → gear_at (cap_runs trace row n) k ≡ capped (flags_at trace k) (cap_at k) (gear_at row k)
  unfolding cap_at
  cap-at n k l room =
      stored (capping trace) (row, uncapped) n k l (omega arith)
      ∙ ap (capped (flags_at trace k) (cap_at k)) (own-yet k)

  pub cap-length : (n : ℕ) → length (cap_runs trace row n) ≡ length row
  cap-length n = stores-length (capping trace) (row, uncapped) n

-- ---- corrections 2 to 5
-- the first second has no predecessor
off : (b c : Bool) (x o : ℕ) → cond (b && false && c) x o ≡ o
off true c x o = refl
off false c x o = refl

pub no-former : (rule : Rule) (former former' flags before before' own : ℕ)
    → ruled rule true former flags before own ≡ ruled rule true former' flags before' own
unfolding ruled
no-former NoFirst former former' flags before before' own = refl
no-former NoShift former former' flags before before' own =
    ap (cond (stop flags) own) (off (no_shift flags) _ _ own ∙ sym (off (no_shift flags) _ _ own))
no-former NoDrop former former' flags before before' own =
    ap (cond (stop flags) own) (off (acceleration flags) _ _ own ∙ sym (off (acceleration flags) _ _ own))
no-former OneStep former former' flags before before' own = refl

abbrev ruling : Rule → List ℕ → Storing (List ℕ)
ruling rule trace = record {
  bytes = λ row. row;
  step = rule_step rule trace;
  place = λ k. 2 * k;
  new = λ row k. ruled rule (eqb k 0) (flags_at trace (k - 1)) (flags_at trace k) (gear_at row (k - 1)) (gear_at row k);
  stores = λ row k. refl;
  apart = λ j k e. omega arith;
}

module _ (rule : Rule) (trace row : List ℕ) where
  pub pass-length : (n : ℕ) → length (pass_by rule trace row n) ≡ length row
  pass-length n = stores-length (ruling rule trace) row n

  module _ (n : ℕ) (room : 2 * n ≤ length row) where
    at_turn : (m k : ℕ) → k < m → m ≤ n → gear_at (pass_by rule trace row m) k ≡ (ruling rule trace).new (pass_by rule trace row k) k
    at_turn m k l h = stored (ruling rule trace) row m k l (omega arith)

    before-turn : (k : ℕ) → gear_at (pass_by rule trace row k) k ≡ gear_at row k
    before-turn k = not_yet (ruling rule trace) row k k (omega arith)

    -- the first second
    pub pass-first : 0 < n → gear_at (pass_by rule trace row n) 0 ≡ ruled rule true (flags_at trace 0) (flags_at trace 0) (gear_at row 0) (gear_at row 0)
    pass-first l = at_turn n 0 l (omega arith)

    -- any other
    pub pass-next : (k : ℕ) → suc k < n
        → gear_at (pass_by rule trace row n) (suc k)
        ≡ ruled rule false (flags_at trace k) (flags_at trace (suc k)) (gear_at (pass_by rule trace row n) k) (gear_at row (suc k))
    pass-next k l =
        let later : eqb (suc k) 0 ≡ false = ne_eqb (suc k) 0 (λ (e : suc k ≡ 0). omega arith) in
        let less : suc k - 1 ≡ k = omega arith in
        let before : gear_at (pass_by rule trace row (suc k)) k ≡ gear_at (pass_by rule trace row n) k =
        at_turn (suc k) k (omega arith) (omega arith) ∙ sym (at_turn n k (omega arith) (omega arith)) in
        at_turn n (suc k) l (omega arith)
        ∙ (λ i. ruled rule (later i) (flags_at trace (less i)) (flags_at trace (suc k)) (gear_at (pass_by rule trace row (suc k)) (less i)) (before-turn (suc k) i))
        ∙ ap (λ (g : ℕ). ruled rule false (flags_at trace k) (flags_at trace (suc k)) g (gear_at row (suc k))) before
