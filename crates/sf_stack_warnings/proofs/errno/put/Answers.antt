use Rattle.sf_stack_warnings.proofs.errno.ZeroErrorLemmas.{is_new, put_one}
use Rattle.sf_stack_warnings.proofs.errno.put.Goals as goal

pub returns-clause-is_new : goal.returns-clause-is_new
returns-clause-is_new c = is_new c.args.seen.now c.args.number c.in_ok-is_new.is_new c.in_ok-is_new.ensures.added

pub returns-clause-numbers : goal.returns-clause-numbers
returns-clause-numbers c =
    put_one c.args.seen.now c.insert.new.self c.args.number c.in_ok-is_new.ensures.updates
