use Rattle.sf_dom.proofs.Common.{common_steps, not, ap, ◌∙◌, arith, eq-eqb, ne_eqb, bit_and}
use Rattle.sf_dom.proofs.CommonBits.{common-known, common-open, none-open, and-zero}
use Rattle.sf_dom.proofs.telling.Forcing.{common-true, common-false}
use Rattle.sf_dom.proofs.telling.tell_common.Goals as goal

pub returns-then-known-number-ne0-clause-told : goal.returns-then-known-number-ne0-clause-told
returns-then-known-number-ne0-clause-told c = grind (arith, common_steps, ne_eqb, common-known)

pub returns-then-number-known-eq0-clause-told : goal.returns-then-number-known-eq0-clause-told
returns-then-number-known-eq0-clause-told c = λ x h.
    ap not (eq-eqb (bit_and x c.args.number) 0
    (common-open x c.args.number c.args.known.zeros c.args.known.ones (omega arith) (omega arith) h.bits
    ∙ ap (bit_and x) c.if-number-known-eq0.true ∙ and-zero x))

pub returns-clause-told : goal.returns-clause-told
returns-clause-told c = grind (arith, common_steps, none-open)

pub returns-then-known-number-ne0-clause-rule : goal.returns-then-known-number-ne0-clause-rule
returns-then-known-number-ne0-clause-rule c = λ h.
    common-true c.args.known c.args.number h c.ranges.number.fits c.if-known-number-ne0.true

pub returns-then-number-known-eq0-clause-rule : goal.returns-then-number-known-eq0-clause-rule
returns-then-number-known-eq0-clause-rule c = λ h.
    common-false c.args.known c.args.number h c.ranges.number.fits c.if-number-known-eq0.true
