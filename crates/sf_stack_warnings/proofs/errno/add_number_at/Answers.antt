use Rattle.sf_stack_warnings.proofs.errno.ZeroErrorLemmas.{none_added, one_added}
use Rattle.sf_stack_warnings.proofs.errno.add_number_at.Goals as goal

pub returns-in_default : goal.returns-in_default
returns-in_default c =
    none_added c.args.settled.now c.args.place c.args.numbers.now.items c.args.seen.now.keys c.requires.before
    (λ plain. rw c.in_default.is at (c.in_ok-number.ensures.plain plain))

pub returns : goal.returns
returns c =
    one_added c.args.settled.now c.args.place c.in-Some.number c.args.numbers.now.items c.push_once.new.numbers.items
    c.args.seen.now.keys c.push_once.new.seen.keys c.requires.before
    (rw c.in-Some.is at c.in_ok-number.ensures.number) c.in_ok-push_once.ensures.added
    c.in_ok-push_once.ensures.same
