-- Every refusal of the live engine exactly: at the start, at a second and at the end, what is given is the first line of the table that fails. Assumes nothing.
use mathlib.Core.Path.{◌≡◌, refl, ap, ◌∙◌}
use mathlib.Core.Bool.{true, not}
use mathlib.Core.List.{List, [], ◌∷◌, ◌++◌}
use Prim.Native.Nat.{ℕ, ◌+◌}
use native.Mathlib.Omega.{arith}
use lib.Dec.{ltb}
use Rattle.refusal.specs.declared.Refusal.TheVariants.{Header, Count, Second, Marked, TooClose}
use Rattle.refusal.specs.Judging.{checked, Check, judged_by}
use Rattle.refusal.proofs.Ranges.{both as apart}
use Rattle.house.specs.House.{readable, good_in}
use Rattle.vehicle.specs.declared.VehicleSheet.{VehicleSheet}
use Rattle.outcome.specs.declared.Outcome.{Outcome}
use Rattle.outcome.specs.Outcome.{outcome_of}
use Rattle.prompt.specs.declared.Engine.{Engine}
use Rattle.prompt.specs.declared.Received.{Received}
use Rattle.prompt.specs.Prompt.{judge_begin, own_of, may_be, judge_second, judge_end}
use Rattle.claims.specs.Table.{Line, outcome, first_of, Exactly, not_after, rising, begin_table, heard_table, end_table}
use Rattle.claims.proofs.Checks.{check, vehicle_checks, vehicle-judged}
use Rattle.claims.proofs.Table.{lines_of, given-first, lines-append, lines-each, lines-where, decides, rising-numbered, ratios-rising}

-- ---- the start
-- the first part of a table rises as the whole does
rising-front : (last : Outcome) (ls ms : List Line) → rising last (ls ++ ms) ≡ true → rising last ls ≡ true
rising-front last [] ms is = refl
rising-front last (l ∷ ls) ms is =
    let two = apart (not_after last l.gives) (rising l.gives (ls ++ ms)) is in
    rw (two.0, rising-front l.gives ls ms two.1)

module _ (version : ℕ) (v : VehicleSheet) where
  begin_checks : List Check
  begin_checks = check (readable version) Header ∷ vehicle_checks v

  begin-judged : judge_begin version v ≡ judged_by begin_checks
  unfolding judge_begin begin_checks
  begin-judged = ap (checked (readable version) Header) (vehicle-judged v)

  begin-lines : lines_of begin_checks ≡ begin_table version v
  unfolding begin_checks
  begin-lines = simp (lines-append, lines-each, lines-where)

  pub begin-rising : rising (outcome 1 0 0 0) (begin_table version v) ≡ true
  begin-rising = rising-front (outcome 1 0 0 0) (begin_table version v) _ (ratios-rising [] v 0 0)

  pub begin-table : outcome_of (judge_begin version v) ≡ first_of (begin_table version v)
  begin-table = ap outcome_of begin-judged ∙ given-first begin_checks ∙ ap first_of begin-lines

  pub begin-exactly : Exactly (outcome_of (judge_begin version v)) (begin_table version v)
  begin-exactly = rw begin-table (decides (begin_table version v) (rising-numbered (outcome 1 0 0 0) (begin_table version v) (omega arith) begin-rising))

-- ---- a second
module _ (e : Engine) (s : Received) where
  abbrev at : ℕ
  at = e.live.received + 1

  abbrev heard_checks : List Check
  heard_checks =
      check (ltb e.live.received 2000) Count
      ∷ check (good_in e.version s.speed s.flags s.fourth) (Second at)
      ∷ check (may_be e s) (Marked at)
      ∷ check (not (own_of e s).close) (TooClose at)
      ∷ []

  heard-judged : judge_second e s ≡ judged_by heard_checks
  unfolding judge_second
  heard-judged = refl

  pub heard-table : outcome_of (judge_second e s) ≡ first_of (heard_table e s)
  heard-table = ap outcome_of heard-judged ∙ given-first heard_checks

  pub heard-exactly : Exactly (outcome_of (judge_second e s)) (heard_table e s)
  heard-exactly = rw heard-table (decides (heard_table e s) (omega arith, (omega arith, (omega arith, (omega arith, tt)))))

-- ---- the end
module _ (e : Engine) where
  pub end-table : outcome_of (judge_end e) ≡ first_of (end_table e)
  unfolding judge_end
  end-table = given-first (check (ltb 0 e.live.received) Count ∷ [])

  pub end-exactly : Exactly (outcome_of (judge_end e)) (end_table e)
  end-exactly = rw end-table (decides (end_table e) (omega arith, tt))
