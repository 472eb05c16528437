-- A second that is too close ends the search; one that is called lets it go on.
use Rattle.std.proofs.Common.{◌≡◌, ◌∙◌, sym, ap, ℕ, ◌+◌, ◌-◌, ◌<◌, true, false, not, arith}
use Rattle.std.specs.Prelude.{Ok, Err}
use Rattle.refusal.specs.declared.Refusal.TheVariants.{TooClose}
use Rattle.walk.proofs.Walk.{scan-on, scan-out}
use Rattle.shift.specs.Speeds.{Own}
use Rattle.own.specs.Own.{judge_own}
use Rattle.own.specs.ByTenths.{second_at}
use Rattle.own.proofs.judge_own.Goals as goal

close-out : (own : ℕ → Own) (n k : ℕ) → k < n → (own k).close ≡ true → judge_own own k (n - k) ≡ Err (TooClose (k + 1))
close-out own n k l e = scan-out (λ k. not (own k).close) (λ k. Err (TooClose (k + 1))) (λ k. Ok tt) n k l (ap not e)

called-on : (own : ℕ → Own) (n k : ℕ) → k < n → (own k).close ≡ false → judge_own own k (n - k) ≡ judge_own own (k + 1) (n - (k + 1))
called-on own n k l e = scan-on (λ k. not (own k).close) (λ k. Err (TooClose (k + 1))) (λ k. Ok tt) n k l (ap not e)

pub returns-then-is_close : goal.returns-then-is_close
returns-then-is_close c =
    let own = second_at c.args.t c.args.trace.bytes.now in
    let l = c.loop-k in
    let close : c.is_close.result ≡ (own l.k).close = rw (c.flags.ensures, c.speed-speed.ensures.0) at c.is_close.ensures in
    sym (l.invariant ∙ close-out own c.args.trace.seconds l.k (omega arith) (sym close ∙ c.if-is_close.true))

pub loop-k-preserved : goal.loop-k-preserved
loop-k-preserved c =
    let own = second_at c.args.t c.args.trace.bytes.now in
    let l = c.loop-k in
    let close : c.is_close.result ≡ (own l.k).close = rw (c.flags.ensures, c.speed-speed.ensures.0) at c.is_close.ensures in
    l.invariant ∙ called-on own c.args.trace.seconds l.k (omega arith) (sym close ∙ c.if-is_close.false)
