-- What corrections 1 to 5 keep of every second: outside a stop its gear lies between the least that the second allows and the vehicle's highest, and in a
-- stop it is that of the stop rule. Assumes nothing.
use mathlib.Core.Path.{◌≡◌, refl, sym, ap, subst, ◌∙◌}
use mathlib.Core.Bool.{Bool, true, false, cond}
use mathlib.Core.List.{List}
use Prim.Native.Nat.{ℕ, zero, suc, ◌-◌, ◌*◌, ◌≤◌, ◌<◌}
use native.Mathlib.Numerals.{add-one}
use native.Mathlib.Omega.{arith}
use lib.ListN.{length}
use Rattle.house.specs.House.{flags_at, stop_at}
use Rattle.row.specs.declared.Rule.{Rule}
use Rattle.row.specs.Row.{gear_at}
use Rattle.row.specs.Corrections.{cap_runs, ruled, pass_by}
use Rattle.row.proofs.Passes.{cap_at, cap-first, cap-next, cap-at, pass-first, pass-next}
use Rattle.row.proofs.Ranges.{FromTo, least_by, least_for, least-range, least-some, capped-stop, capped-range, cap-some, ruled-stop, ruled-range}
use Rattle.phase.specs.Phase.{stop_end, stop_gear, first_gear, first_row}
use Rattle.phase.proofs.Stops.{first-at, last-gear}

-- what is kept of second k of n: drives outside a stop, halts in one
pub record Second (trace : List ℕ) (n most least k gear : ℕ) : Type 0 where
  pub drives : stop_at trace k ≡ false → FromTo least most gear
  pub halts : stop_at trace k ≡ true → gear ≡ stop_gear (stop_end trace n k - k)

wider : {least most gear : ℕ} → 1 ≤ least → FromTo least most gear → FromTo 1 most gear
wider some h = record { low = omega arith; high = omega arith }

module _ (trace : List ℕ) (n most : ℕ) (some : 2 ≤ most) where
  -- the second before one that is no stop has no gear 0
  before-drive : (least k gear : ℕ) → 1 ≤ least → suc k < n → stop_at trace (suc k) ≡ false → Second trace n most least k gear → FromTo 1 most gear
  before-drive least k gear lower l drive s = go (stop_at trace k) refl
    where
      go : (b : Bool) → stop_at trace k ≡ b → FromTo 1 most gear
      go true halt =
          let one : gear ≡ 1 = s.halts halt ∙ last-gear trace n k (omega arith) halt (λ below. ap (stop_at trace) (add-one k) ∙ drive) in
          record { low = omega arith; high = omega arith }
      go false drives = wider lower (s.drives drives)

  -- ---- corrections 2 to 5
  ruled-second : (rule : Rule) (first : Bool) (former before own k : ℕ) → (stop_at trace k ≡ false → FromTo 1 most before)
      → Second trace n most (least_for rule (flags_at trace k)) k own
      → Second trace n most (least_by (flags_at trace k)) k (ruled rule first former (flags_at trace k) before own)
  ruled-second rule first former before own k hb s =
      record {
        drives = λ e. ruled-range some rule first former (flags_at trace k) before own e (hb e) (s.drives e);
        halts = λ e. ruled-stop rule first former (flags_at trace k) before own e ∙ s.halts e;
      }

  pub pass-second : (rule : Rule) (row : List ℕ) → 2 * n ≤ length row
      → ((k : ℕ) → k < n → Second trace n most (least_for rule (flags_at trace k)) k (gear_at row k))
      → (k : ℕ) → k < n → Second trace n most (least_by (flags_at trace k)) k (gear_at (pass_by rule trace row n) k)
  pass-second rule row room given zero l =
      subst (Second trace n most (least_by (flags_at trace 0)) 0) (sym (pass-first rule trace row n room l))
      (ruled-second rule true (flags_at trace 0) (gear_at row 0) (gear_at row 0) 0 (λ e. wider (least-some rule (flags_at trace 0)) ((given 0 l).drives e)) (given 0 l))
  pass-second rule row room given (suc k) l =
      let before = pass-second rule row room given k (omega arith) in
      subst (Second trace n most (least_by (flags_at trace (suc k))) (suc k)) (sym (pass-next rule trace row n room k l))
      (ruled-second rule false (flags_at trace k) (gear_at (pass_by rule trace row n) k) (gear_at row (suc k)) (suc k)
      (λ e. before-drive _ k _ (least-range (flags_at trace k)).low l e before) (given (suc k) l))

  -- ---- correction 1
  module _ (row : List ℕ) (room : 2 * n ≤ length row) (given : (k : ℕ) → k < n → Second trace n most 1 k (gear_at row k)) where
    caps-some : (k : ℕ) → k ≤ n → 1 ≤ cap_at trace row k
    caps-some zero l = omega (arith, cap-first trace row)
    caps-some (suc k) l =
        let before = caps-some k (omega arith) in
        omega (arith, cap-next trace row k, cap-some (flags_at trace k) (cap_at trace row k) (gear_at row k) before (λ e. ((given k (omega arith)).drives e).low))

    pub cap-second : (k : ℕ) → k < n → Second trace n most 1 k (gear_at (cap_runs trace row n) k)
    cap-second k l =
        let flags = flags_at trace k in
        let cap = cap_at trace row k in
        let own = gear_at row k in
        subst (Second trace n most 1 k) (sym (cap-at trace row n k l room))
        (record {
          drives = λ e. capped-range flags cap own (caps-some k (omega arith)) ((given k l).drives e);
          halts = λ e. capped-stop flags cap own e ∙ (given k l).halts e;
        })

  -- ---- before corrections
  pub first-second : (own : ℕ → ℕ) → ((k : ℕ) → k < n → stop_at trace k ≡ false → FromTo 1 most (own k))
      → (k : ℕ) → k < n → Second trace n most 1 k (gear_at (first_row own trace n) k)
  unfolding first_gear
  first-second own ranges k l =
      let gear = first_gear own trace n k in
      let is : (b : Bool) → stop_at trace k ≡ b → gear ≡ cond b (stop_gear (stop_end trace n k - k)) (own k) =
      λ b e. ap (λ (b : Bool). cond b (stop_gear (stop_end trace n k - k)) (own k)) e in
      subst (Second trace n most 1 k) (sym (first-at own trace n k l))
      (record { drives = λ e. subst (FromTo 1 most) (sym (is false e)) (ranges k l e); halts = λ e. is true e })
