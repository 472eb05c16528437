-- What becomes of an engine that hears the seconds of a trace: it runs on, or one second, the first that is refused, has ended it. Assumes nothing.
use mathlib.Core.Path.{◌≡◌, refl, sym, ap, subst, ◌∙◌}
use mathlib.Core.Bool.{Bool, true, false, cond}
use mathlib.Core.List.{List, [], ◌∷◌, ◌++◌, append-nil}
use Prim.Native.Nat.{ℕ, zero, suc, ◌*◌, ◌<◌}
use native.Mathlib.Decide.{dec_lt}
use native.Mathlib.Omega.{arith}
use lib.Dec.{ltb}
use lib.ListN.{length, get_or, drop}
use lib.Seq.{take_at}
use Rattle.refusal.specs.declared.Refusal.{Refusal}
use Rattle.refusal.specs.declared.Refusal.TheVariants.{Count}
use Rattle.std.specs.Prelude.{Ok, Err}
use Rattle.refusal.specs.Judging.{Judged}
use Rattle.refusal.proofs.Judging.{checked-holds, refused-not}
use Rattle.walk.proofs.Walk.{pairs-length}
use Rattle.house.specs.House.{speed_at, flags_at, zero_at, good_in}
use Rattle.vehicle.specs.declared.VehicleSheet.{VehicleSheet}
use Rattle.vehicle.specs.Sheet.{Sound}
use Rattle.shift.specs.Speeds.{shift_of, Own}
use Rattle.tenths.specs.Least.{tenths_of}
use Rattle.own.specs.Own.{own_at}
use Rattle.own.proofs.ByTenths.{good-by-tenths}
use Rattle.clutch.specs.Clutch.{clutch_of}
use Rattle.live.specs.declared.Live.{Live}
use Rattle.live.specs.Live.{step, oldest, due, given, no_bytes, packed, waiting, finish, state_at, given_to}
use Rattle.prompt.specs.declared.Engine.{Engine}
use Rattle.prompt.specs.Prompt.{begun, own_of, judge_second, heard_by, heard}
use Rattle.prompt.specs.Run.{Run, received_at, bytes_of, go_on, run_to}

-- ---- what is given, as bytes
packed-bytes : (count : ℕ) (bytes : List ℕ) → length bytes ≡ 2 * count → bytes_of (packed count bytes) ≡ bytes
packed-bytes count bytes long = take_at bytes (drop (2 * count) no_bytes) (2 * count) long

given-length : (v : VehicleSheet) (s : Live) (flags : ℕ) → length (given v s flags) ≡ 2 * due s
unfolding given
given-length v s flags = go (ltb s.received 5)
  where
    go : (b : Bool) → length (cond b [] (oldest s flags ∷ clutch_of v (get_or s.flags 4 0) (get_or s.speeds 4 0) (oldest s flags) ∷ [])) ≡ 2 * cond b 0 1
    go true = refl
    go false = refl

pub given-bytes : (v : VehicleSheet) (s : Live) (flags : ℕ) → bytes_of (packed (due s) (given v s flags)) ≡ given v s flags
given-bytes v s flags = packed-bytes (due s) (given v s flags) (given-length v s flags)

pub finish-bytes : (v : VehicleSheet) (s : Live) → bytes_of (packed (waiting s) (finish v s)) ≡ finish v s
unfolding finish
finish-bytes v s = packed-bytes (waiting s) (finish v s) (pairs-length _ _ (waiting s))

-- ---- the engine of an accepted vehicle, along a trace
module _ (version : ℕ) {v : VehicleSheet} (sound : Sound v) (trace : List ℕ) where
  abbrev pub own : ℕ → ℕ
  own k = (own_at (shift_of v) trace k).gear

  abbrev pub engine_at : ℕ → Engine
  engine_at k = record { version = version; v = v; tenths = tenths_of (shift_of v); live = state_at own trace k }

  -- what is said of second k where those before it were taken
  abbrev pub said_of : ℕ → Judged
  said_of k = judge_second (engine_at k) (received_at trace k)

  abbrev pub running : ℕ → Run
  running k = record { judged = Ok tt; engine = engine_at k; bytes = given_to v own trace k }

  abbrev pub stopped : ℕ → Refusal → Run
  stopped k refusal = record { judged = Err refusal; engine = engine_at k; bytes = given_to v own trace k }

  -- after n seconds it runs, or second k has ended it
  pub data Fate (n : ℕ) : Run → Type 0 where
    runs : ((i : ℕ) → i < n → said_of i ≡ Ok tt) → Fate n (running n)
    ends : (k : ℕ) (refusal : Refusal) → k < n → ((i : ℕ) → i < k → said_of i ≡ Ok tt) → said_of k ≡ Err refusal → Fate n (stopped k refusal)

  -- an accepted second has the gear of the ends
  gear-is : (k : ℕ) → said_of k ≡ Ok tt → (own_of (engine_at k) (received_at trace k)).gear ≡ own k
  unfolding judge_second
  gear-is k e =
      let counted = checked-holds (ltb (state_at own trace k).received 2000) Count _ e in
      let good = (checked-holds (good_in version (speed_at trace k) (flags_at trace k) (zero_at trace k)) _ _ counted.1).0 in
      ap (λ (o : Own). o.gear) (good-by-tenths sound version (flags_at trace k) (speed_at trace k) (zero_at trace k) good)

  next-runs : (k : ℕ) → said_of k ≡ Ok tt → go_on (Ok tt) (running k) (received_at trace k) ≡ running (suc k)
  unfolding heard given_to
  next-runs k e =
      let gear = gear-is k e in
      let given_is = given-bytes v (state_at own trace k) (flags_at trace k) in
      ap (λ (j : Judged). let h = heard_by j (engine_at k) (received_at trace k) in record { judged = h.judged; engine = h.engine; bytes = given_to v own trace k ++ bytes_of h.given }) e
      ∙ (λ i. record {
        judged = Ok tt;
        engine = record { version = version; v = v; tenths = tenths_of (shift_of v); live = step (state_at own trace k) (speed_at trace k) (flags_at trace k) (gear i) };
        bytes = given_to v own trace k ++ given_is i;
      })

  next-ends : (k : ℕ) (refusal : Refusal) → said_of k ≡ Err refusal → go_on (Ok tt) (running k) (received_at trace k) ≡ stopped k refusal
  unfolding heard
  next-ends k refusal e =
      ap (λ (j : Judged). let h = heard_by j (engine_at k) (received_at trace k) in record { judged = h.judged; engine = h.engine; bytes = given_to v own trace k ++ bytes_of h.given }) e
      ∙ (λ i. record { judged = Err refusal; engine = engine_at k; bytes = append-nil (given_to v own trace k) i })

  pub fate : (n : ℕ) → Fate n (run_to (begun version v) trace n)
  unfolding run_to given_to
  fate zero = runs (λ i l. absurd (let z : ⊥ = omega arith in z))
  fate (suc n) = go (run_to (begun version v) trace n) (fate n)
    where
      further : ((i : ℕ) → i < n → said_of i ≡ Ok tt) → (j : Judged) → said_of n ≡ j → Fate (suc n) (go_on (Ok tt) (running n) (received_at trace n))
      further all (Ok _) e = subst (Fate (suc n)) (sym (next-runs n e)) (runs (λ i l. each i l (dec_lt i n)))
        where
          each : (i : ℕ) → i < suc n → Dec (i < n) → said_of i ≡ Ok tt
          each i l (yes below) = all i below
          each i l (no above) =
              let same : i ≡ n = omega arith in
              ap said_of same ∙ e
      further all (Err refusal) e = subst (Fate (suc n)) (sym (next-ends n refusal e)) (ends n refusal (omega arith) all e)

      go : (r : Run) → Fate n r → Fate (suc n) (go_on r.judged r (received_at trace n))
      go r (runs all) = further all (said_of n) refl
      go r (ends k refusal l all e) = ends k refusal (omega arith) all e

  -- seconds of which each is accepted
  pub runs_on : (n : ℕ) → ((i : ℕ) → i < n → said_of i ≡ Ok tt) → run_to (begun version v) trace n ≡ running n
  runs_on n good = go (run_to (begun version v) trace n) (fate n)
    where
      go : (r : Run) → Fate n r → r ≡ running n
      go r (runs all) = refl
      go r (ends k refusal l all e) = absurd (refused-not (sym e ∙ good k l))

  -- and the first that is not
  pub ends_at : (k : ℕ) (refusal : Refusal) → ((i : ℕ) → i < k → said_of i ≡ Ok tt) → said_of k ≡ Err refusal
      → run_to (begun version v) trace (suc k) ≡ stopped k refusal
  unfolding run_to
  ends_at k refusal good e = ap (λ (r : Run). go_on r.judged r (received_at trace k)) (runs_on k good) ∙ next-ends k refusal e
