-- A vehicle's tables in its lane, and no other lane changed. Assumes nothing.
use mathlib.Core.Path.{◌≡◌, refl, ap, subst, ◌∙◌}
use mathlib.Core.Bool.{true, false}
use mathlib.Core.List.{List}
use Prim.Native.Nat.{ℕ, ◌+◌, ◌-◌, ◌*◌, ◌<◌, ◌≤◌}
use native.Mathlib.Decide.{dec_lt}
use native.Mathlib.Omega.{arith}
use borrow.Author.Tests.{lt-ltb, le-ltb, ne_eqb}
use lib.Dec.{eqb, ltb}
use lib.ListN.{length, get_or, set, length-set}
use lib.Seq.{get_or-set_same, get_or-set_other}
use Rattle.walk.proofs.Stores.{Storing, stores-length, not-stored, stored}
use Rattle.std.specs.Prelude.{Ok, Err}
use Rattle.refusal.specs.Judging.{Judged}
use Rattle.refusal.specs.declared.Refusal.{Refusal}
use Rattle.refusal.proofs.Judging.{refused-not}
use Rattle.vehicle.specs.declared.VehicleSheet.{VehicleSheet}
use Rattle.vehicle.specs.Sheet.{Sound}
use Rattle.shift.specs.Speeds.{shift_of}
use Rattle.tenths.specs.declared.Tenths.{Tenths}
use Rattle.tenths.specs.Least.{tenths_of}
use Rattle.lanes.specs.Lanes.{lane_at}
use Rattle.lane_clutch.specs.Clutch.{limit_of}
use Rattle.plan.specs.Plan.{sheet_at}
use Rattle.plan.specs.Lanes.{vehicle_answer, table_at, with_table, Lane, Entered, Lanes}

-- the lane's flag at 0
module _ (tables : List ℕ) (j : ℕ) (few : j < 16) (room : 288 ≤ length tables) where
  abbrev pub unset : List ℕ
  unset = set tables (16 * 17 + j) 0

  unset-other : (h i : ℕ) → h < 16 → (h ≡ j → ⊥) → lane_at unset h i ≡ lane_at tables h i
  unset-other h i l apart = get_or-set_other tables (16 * 17 + j) (16 * i + h) 0 0 (λ e. apart (omega arith))

  pub entered-refused : (v : VehicleSheet) (refusal : Refusal) → Entered v (Err refusal) tables unset j
  entered-refused v refusal = record {
    long = length-set tables (16 * 17 + j) 0;
    others = unset-other;
    lane = record { flag = get_or-set_same tables (16 * 17 + j) 0 0 (omega arith); table = λ e. absurd (refused-not e) };
  }

  module _ (v : VehicleSheet) (sound : Sound v) where
    abbrev t : Tenths
    t = tenths_of (shift_of v)

    abbrev putting : Storing (List ℕ)
    putting = record {
      bytes = λ l. l;
      step = λ l i. set l (16 * i + j) (table_at v t i);
      place = λ i. 16 * i + j;
      new = λ l i. table_at v t i;
      stores = λ l i. refl;
      apart = λ a b e. omega arith;
    }

    abbrev full : List ℕ
    full = with_table v t j unset 18

    full-long : length full ≡ length tables
    unfolding with_table
    full-long = stores-length putting unset 18 ∙ length-set tables (16 * 17 + j) 0

    full-other : (h i : ℕ) → h < 16 → (h ≡ j → ⊥) → lane_at full h i ≡ lane_at tables h i
    unfolding with_table
    full-other h i l apart = not-stored putting (16 * i + h) (λ k e. apart (omega arith)) unset 18 ∙ unset-other h i l apart

    full_at : (i : ℕ) → i < 18 → lane_at full j i ≡ table_at v t i
    unfolding with_table
    full_at i l =
        let long = length-set tables (16 * 17 + j) 0 in
        stored putting unset 18 i l (omega arith)

    -- what the lines are
    above-is : (i : ℕ) → i < 7 → table_at v t i ≡ get_or t.above i 0
    unfolding table_at
    above-is i l = rw (lt-ltb i 7 l)

    limit_is : (gear : ℕ) → 1 ≤ gear → gear ≤ 8 → table_at v t (gear + 8) ≡ limit_of v gear
    unfolding table_at
    limit_is gear low high =
        let past : ltb (gear + 8) 7 ≡ false = le-ltb (gear + 8) 7 (omega arith) in
        let no_last : eqb (gear + 8) 7 ≡ false = ne_eqb (gear + 8) 7 (λ (e : gear + 8 ≡ 7). omega arith) in
        let no-first : eqb (gear + 8) 8 ≡ false = ne_eqb (gear + 8) 8 (λ (e : gear + 8 ≡ 8). omega arith) in
        let here : ltb (gear + 8) 17 ≡ true = lt-ltb (gear + 8) 17 (omega arith) in
        let back : gear + 8 - 8 ≡ gear = omega arith in
        rw (past, no_last, no-first, here) (ap (limit_of v) back)

    flag_is : lane_at full j 17 ≡ 1
    unfolding table_at
    flag_is = full_at 17 (omega arith)

    last-is : lane_at full j 7 ≡ t.last.above
    unfolding table_at
    last-is = full_at 7 (omega arith)

    first-is : lane_at full j 8 ≡ t.first
    unfolding table_at
    first-is = full_at 8 (omega arith)

    pub entered-accepted : Entered v (Ok tt) tables full j
    entered-accepted = record {
      long = full-long;
      others = full-other;
      lane = record {
        flag = flag_is;
        table = λ e. record {
          sound = sound;
          tenths = record { above = λ i l. full_at i (omega arith) ∙ above-is i l; last = last-is; first = first-is };
          limits = record { limits = λ gear low high. full_at (gear + 8) (omega arith) ∙ limit_is gear low high };
        };
      };
    }

-- a lane more
lane-kept : (v : VehicleSheet) (answer : Judged) (tables tables' : List ℕ) (h : ℕ) → ((i : ℕ) → lane_at tables' h i ≡ lane_at tables h i) → Lane v answer tables h → Lane v answer tables' h
lane-kept v answer tables tables' h same lane = record {
  flag = same 17 ∙ lane.flag;
  table = λ e.
      let t = lane.table e in
      record {
        sound = t.sound;
        tenths = record { above = λ i l. same i ∙ t.tenths.above i l; last = same 7 ∙ t.tenths.last; first = same 8 ∙ t.tenths.first };
        limits = record { limits = λ gear low high. same (gear + 8) ∙ t.limits.limits gear low high };
      };
}

pub lanes_next : (trace sheets : List ℕ) (n from j : ℕ) (tables tables' : List ℕ) → j < 16 → Lanes trace sheets n from tables j
    → Entered (sheet_at sheets (from + j)) (vehicle_answer trace (sheet_at sheets (from + j)) n) tables tables' j → Lanes trace sheets n from tables' (j + 1)
lanes_next trace sheets n from j tables tables' few lanes entered h l = go (dec_lt h j)
  where
    go : Dec (h < j) → Lane (sheet_at sheets (from + h)) (vehicle_answer trace (sheet_at sheets (from + h)) n) tables' h
    go (yes below) =
        lane-kept (sheet_at sheets (from + h)) (vehicle_answer trace (sheet_at sheets (from + h)) n) tables tables' h
        (λ i. entered.others h i (omega arith) (λ e. omega arith)) (lanes h below)
    go (no above) =
        let same : j ≡ h = omega arith in
        subst (λ (h : ℕ). Lane (sheet_at sheets (from + h)) (vehicle_answer trace (sheet_at sheets (from + h)) n) tables' h) same entered.lane
