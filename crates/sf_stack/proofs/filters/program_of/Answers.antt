use Rattle.sf_stack.proofs.Common.{◌≡◌, rules, check_fault}
use Rattle.sf_stack.proofs.filters.FilterLemmas.{mapped_err, unlawful_due}
use Rattle.sf_stack.proofs.filters.program_of.Goals as goal

pub returns-clause-refused : goal.returns-clause-refused
returns-clause-refused c =
    mapped_err c.check.result c.map_err-2.result c.map_err-2.ensures.cases c.check.ensures.refused
    (λ e d is post refused.
    let same : d ≡ check_fault c.args.filter e = search rules in
    rw same
    (unlawful_due c.args.filter c.args.bytes.now c.in_ok-raws.raws.items e (search rules) (search rules) (search rules)
    (search rules) (rw c.deref.ensures.value at refused)))
