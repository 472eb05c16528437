-- What each turn asks: the terms and the sums are those of the definition, and these fit.
use Rattle.std.proofs.Common.{◌≡◌, ℕ, ◌+◌, ◌-◌, ◌∙◌, sym, ap, subst, arith, rules}
use Rattle.arith.specs.declared.Ends.{Ends}
use Rattle.shift.specs.Exponential.{next_term, term_of, sum_to, exponential_of}
use Rattle.shift.specs.Fitting.{TermFits}
use Rattle.shift.proofs.Terms.{term-next, term_fits, with-fits}
use Rattle.shift.proofs.exponential.Goals as goal

pub next_term-term-requires : goal.next_term-term-requires
next_term-term-requires c =
    let a = c.args in
    let k = c.loop-k.k in
    let here : k - 1 + 1 ≡ k = omega arith in
    rw c.loop-k.invariant.0 (subst (TermFits a.over a.under (term_of a.over a.under (k - 1))) here (term_fits c.requires (k - 1) (omega arith)))

pub with_term-sum-requires : goal.with_term-sum-requires
with_term-sum-requires c =
    let a = c.args in
    let k = c.loop-k.k in
    let here : k - 1 + 1 ≡ k = omega arith in
    let term : c.next_term-term.result ≡ term_of a.over a.under (k - 1 + 1) =
    c.next_term-term.ensures
    ∙ (λ i. next_term a.over a.under (c.loop-k.invariant.0 i) (sym here i))
    ∙ sym (term-next a.over a.under (k - 1)) in
    rw (c.loop-k.invariant.1, term) (with-fits c.requires (k - 1) (omega arith))

-- behind the loop k is 24
at-23 : (f : ℕ → Ends) {x : Ends} {k : ℕ} → x ≡ f (k - 1) → k ≡ 24 → x ≡ f 23
at-23 f e ended = e ∙ ap (λ (k : ℕ). f (k - 1)) ended

pub next_term-last-requires : goal.next_term-last-requires
next_term-last-requires c = rw (at-23 (term_of c.args.over c.args.under) c.loop-k.invariant.0 (omega arith)) (term_fits c.requires 23 (omega arith))

pub with_term-longer-requires : goal.with_term-longer-requires
with_term-longer-requires c =
    let a = c.args in
    let sum = at-23 (sum_to a.over a.under) c.loop-k.invariant.1 (omega arith) in
    let term = at-23 (term_of a.over a.under) c.loop-k.invariant.0 (omega arith) in
    let longest : c.next_term-last.result ≡ term_of a.over a.under 24 = rw term at c.next_term-last.ensures ∙ sym (term-next a.over a.under 23) in
    rw (sum, longest) (with-fits c.requires 23 (omega arith))

pub returns : goal.returns
unfolding exponential_of sum_to term_of
returns c =
    let a = c.args in
    let sum = at-23 (sum_to a.over a.under) c.loop-k.invariant.1 (omega arith) in
    let term = at-23 (term_of a.over a.under) c.loop-k.invariant.0 (omega arith) in
    let last : c.next_term-last.result ≡ term_of a.over a.under 24 = rw term at c.next_term-last.ensures in
    let longer : c.with_term-longer.result ≡ sum_to a.over a.under 24 = rw (sum, last) at c.with_term-longer.ensures in
    search (rules, sum, longer)
