use Rattle.sf_stack_warnings.proofs.Common.{sym, ◌∙◌, false≢true}
use Rattle.sf_stack_warnings.proofs.errno.ZeroErrorLemmas.{number_found, otherwise_at}
use Rattle.sf_stack_warnings.proofs.errno.number_at.Goals as goal

pub returns-then-not-is_zero_error-clause-plain : goal.returns-then-not-is_zero_error-clause-plain
returns-then-not-is_zero_error-clause-plain c = λ plain.
    otherwise_at c.args.settled.now c.args.place c.region-region.result.now c.region-region.ensures.value
    (λ is. false≢true (sym c.if-not-is_zero_error.true ∙ c.is_zero_error.ensures.1 (c.answer.ensures ∙ is)))

pub returns-in-Some-clause-number : goal.returns-in-Some-clause-number
returns-in-Some-clause-number c =
    let found = rw (c.in-Some.is, c.deref.ensures, c.piece.ensures) at c.in-Ok.ensures.rule in
    number_found c.args.settled.now c.args.place c.region-region.result.now c.in-Some.input
    c.region-region.ensures.value c.region-region.ensures.right
    (sym c.answer.ensures ∙ c.is_zero_error.ensures.0 c.if-not-is_zero_error.false) found.least.input found.member
