use Rattle.sf_check.proofs.Common.{common_steps, arith, slice_get-get_or}
use Rattle.sf_check.proofs.equals.EqualLemmas.{none_here, one_number, test_here}
use Rattle.sf_check.proofs.equals.next_where_it_fails.Goals as goal

pub returns-in_default-clause-none : goal.returns-in_default-clause-none
returns-in_default-clause-none c k next t =
    let here = slice_get-get_or c.args.insns.now c.args.place _ c.requires.inside in
    absurd (none_here c.args.insns.now c.args.place _ here c.in_default.ensures k next t)

pub returns-then-test-number-clause-none : goal.returns-then-test-number-clause-none
returns-then-test-number-clause-none c k next t = grind (arith, common_steps, slice_get-get_or, one_number, test_here)

pub returns-else-test-number-clause-some : goal.returns-else-test-number-clause-some
returns-else-test-number-clause-some c = grind (arith, common_steps, slice_get-get_or, test_here)
