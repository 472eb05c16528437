-- The answer and the buffer by the cases of the checks. Assumes nothing.
use mathlib.Core.Path.{◌≡◌, sym, ap}
use mathlib.Core.Bool.{true, false}
use mathlib.Core.List.{List, ◌++◌}
use Prim.Native.Nat.{ℕ, ◌+◌, ◌*◌, ◌<◌, ◌≤◌}
use lib.ListN.{length, drop}
use borrow.Author.Tests.{lt-leb, le-leb}
use Rattle.std.specs.Prelude.{Ok, Err}
use Rattle.refusal.specs.declared.Refusal.{Refusal}
use Rattle.refusal.specs.declared.Refusal.TheVariants.{Count, Room}
use Rattle.refusal.specs.Judging.{Judged, if_accepted}
use Rattle.writer.specs.Writer.{count_in, counted, judge_seconds, write_answer, written, write_buffer}

module _ (seconds : List ℕ) (room : ℕ) where
  pub not-counted : counted seconds ≡ false → write_answer seconds room ≡ Err Count
  unfolding write_answer
  not-counted e = rw e

  module _ (e : counted seconds ≡ true) where
    pub not-writable : {refusal : Refusal} → judge_seconds seconds 0 (count_in seconds) ≡ Err refusal → write_answer seconds room ≡ Err refusal
    unfolding write_answer
    not-writable f = rw (e, f)

    module _ (f : judge_seconds seconds 0 (count_in seconds) ≡ Ok tt) where
      pub too_small : room < 8 + 4 * count_in seconds → write_answer seconds room ≡ Err Room
      unfolding write_answer
      too_small l = rw (e, f, lt-leb (8 + 4 * count_in seconds) room l)

      pub fits : 8 + 4 * count_in seconds ≤ room → write_answer seconds room ≡ Ok tt
      unfolding write_answer
      fits l = rw (e, f, le-leb (8 + 4 * count_in seconds) room l)

module _ (seconds buffer : List ℕ) where
  abbrev by : Judged → List ℕ
  by j = if_accepted j (written seconds ++ drop (8 + 4 * count_in seconds) buffer) buffer

  pub buffer-kept : {refusal : Refusal} → write_answer seconds (length buffer) ≡ Err refusal → buffer ≡ write_buffer seconds buffer
  unfolding write_buffer
  buffer-kept e = sym (ap by e)

  pub buffer-written : write_answer seconds (length buffer) ≡ Ok tt → written seconds ++ drop (8 + 4 * count_in seconds) buffer ≡ write_buffer seconds buffer
  unfolding write_buffer
  buffer-written e = sym (ap by e)
