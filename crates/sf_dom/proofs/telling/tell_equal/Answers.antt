use Rattle.sf_dom.proofs.Common.{◌≢◌, ℕ, ◌≤◌, arith, refl, inl, inr, cases_eq, Equal, Known, IsOpen, eq-eqb, ne_eqb}
use Rattle.sf_dom.proofs.telling.Forcing.{equal-apart, equal-one}
use Rattle.sf_dom.proofs.telling.tell_equal.Goals as goal

-- a number that passes, and one that fails
open-equal : (k : Known) (n : ℕ) → k.low ≤ n → n ≤ k.high → k.low ≢ k.high → IsOpen Equal k n
open-equal k n above below ne = (
  (n, above, below, eq-eqb n n refl),
  elim (cases_eq k.low n) [
    | inl e ↦ (k.high, omega arith, omega arith, ne_eqb k.high n (λ f. ne (omega arith)))
    | inr d ↦ (k.low, omega arith, omega arith, ne_eqb k.low n d)
  ],
)

pub returns-clause-told : goal.returns-clause-told
returns-clause-told c =
    open-equal c.args.known c.args.number c.if-number-known.false c.if-known-number.false c.if-known.false

pub returns-then-number-known-clause-rule : goal.returns-then-number-known-clause-rule
returns-then-number-known-clause-rule c = λ h.
    equal-apart c.args.known c.args.number h (elim c.then-number-known.either [ inl b ↦ inl b | inr a ↦ inr a.1 ])

pub returns-then-known-clause-rule : goal.returns-then-known-clause-rule
returns-then-known-clause-rule c = λ h.
    let below = c.if-number-known.false in let above = c.if-known-number.false in let one = c.if-known.true in
    equal-one c.args.known c.args.number h (omega arith) (omega arith)
