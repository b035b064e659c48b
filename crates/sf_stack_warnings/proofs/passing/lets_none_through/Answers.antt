use Rattle.sf_stack_warnings.proofs.Common.{arith}
use Rattle.sf_stack_warnings.proofs.passing.PassingLemmas.{passes_none}
use Rattle.sf_stack_warnings.proofs.passing.lets_none_through.Goals as goal

pub returns-then-outstanding_count-eq0-clause-none : goal.returns-then-outstanding_count-eq0-clause-none
returns-then-outstanding_count-eq0-clause-none c =
    let refusing = c.each_refuses.ensures in
    λ all. passes_none c.args.settled.now c.outstanding_count.ensures.lawful
    (omega (arith, c.outstanding_count.ensures.value, c.if-outstanding_count-eq0.true)) (cc)
