-- What an accepted trace tells, which every stage after the judging rests on: that each second is good, and its count, its length, the range of each
-- second. Assumes nothing.
use mathlib.Core.Path.{◌≡◌, refl, sym, ◌∙◌}
use mathlib.Core.Bool.{Bool, true, false, false≢true}
use mathlib.Core.List.{List}
use Prim.Native.Nat.{ℕ, ◌+◌, ◌*◌, ◌≤◌, ◌<◌}
use native.Mathlib.Omega.{arith}
use lib.ListN.{length}
use Rattle.std.specs.Prelude.{Ok, Err}
use Rattle.refusal.specs.declared.Refusal.TheVariants.{Header, Second}
use Rattle.refusal.proofs.Judging.{refused-not}
use Rattle.house.specs.House.{headed, version_of, readable, allows, count_of, speed_at, flags_at, zero_at}
use Rattle.trace.specs.Judging.{judge_seconds, judge_trace, Sound}
use Rattle.trace.proofs.Files.{Passed, passed, file-taken}
use Rattle.house.specs.House.{second_good}
use Rattle.house.proofs.Versions.{allowed-most, good-second, headed-readable}
use Rattle.walk.proofs.Walk.{all-good}
use Rattle.walk.proofs.Same.{scan_good}

past : (trace : List ℕ) → judge_trace trace ≡ Ok tt → Passed (headed trace) trace (judge_seconds trace 0 (count_of trace))
unfolding judge_trace
past trace e = passed (headed trace) trace (judge_seconds trace 0 (count_of trace)) e

-- its version is one of those that are read
pub version-readable : (trace : List ℕ) → judge_trace trace ≡ Ok tt → readable (version_of trace) ≡ true
version-readable trace e = headed-readable trace (past trace e).head

-- no second is refused
pub seconds-good : (trace : List ℕ) → judge_trace trace ≡ Ok tt → (k : ℕ) → k < count_of trace → second_good trace k ≡ true
seconds-good trace e = all-good (second_good trace) _ _ (Ok tt) (λ k. refused-not) (count_of trace) (past trace e).all

pub accepted-sound : (trace : List ℕ) → judge_trace trace ≡ Ok tt → Sound trace
accepted-sound trace e =
    let checks = past trace e in
    let ranges : (k : ℕ) → k < count_of trace → (speed_at trace k ≤ 2000) × (allows (version_of trace) (flags_at trace k) ≡ true) =
    λ k l. good-second (version_of trace) (speed_at trace k) (flags_at trace k) (zero_at trace k) (seconds-good trace e k l) in
    record {
      some = checks.some;
      few = checks.few;
      exact = checks.exact;
      speeds = λ k l. (ranges k l).0;
      flags = λ k l. allowed-most (version_of trace) (flags_at trace k) (ranges k l).1;
    }

-- and where this is so, a trace is accepted
pub accepted-by : (trace : List ℕ) → headed trace ≡ true → 1 ≤ count_of trace → count_of trace ≤ 2000 → length trace ≡ 8 + 4 * count_of trace
    → ((k : ℕ) → k < count_of trace → second_good trace k ≡ true) → judge_trace trace ≡ Ok tt
unfolding judge_trace
accepted-by trace head some few exact each =
    file-taken (headed trace) trace (judge_seconds trace 0 (count_of trace)) head some few exact
    ∙ scan_good (λ k. Err (Second (k + 1))) (λ k. Ok tt) (second_good trace) 0 (count_of trace) (λ k l. each k (omega arith))

-- a version that is not read is refused with 1
pub unreadable : (trace : List ℕ) → readable (version_of trace) ≡ false → judge_trace trace ≡ Err Header
unfolding judge_trace
unreadable trace e = go (headed trace) refl
  where
    go : (b : Bool) → headed trace ≡ b → judge_trace trace ≡ Err Header
    go true is = absurd (false≢true (sym e ∙ headed-readable trace is))
    go false is = rw is
