use Rattle.sf_dom.proofs.Common.{arith}
use Rattle.sf_dom.proofs.ConditionSteps.{words-written}
use Rattle.sf_dom.proofs.changes.learn_cond.Goals as goal

pub assume_cond-requires-clause-words : goal.assume_cond-requires-clause-words
assume_cond-requires-clause-words c =
    let ks = c.args.nodes.now.known in let lists = c.in_ok-lists.lists in let cond = c.args.cond.now in
    let p = c.len-count.ensures.lawful in let words = p.words in
    rw c.in_ok-left.ensures (words-written ks c.args.excluded.now lists c.args.pool.now cond c.in-Some.alone p
    c.requires.count c.requires.below (λ w l. (c.requires.rest w (omega arith)).closed) c.in_ok-lists.ensures
    c.in-Some.ensures)

pub returns-then-not-assume_cond-clause-rule : goal.returns-then-not-assume_cond-clause-rule
returns-then-not-assume_cond-clause-rule c =
    let none = rw (c.in_ok-left.ensures, c.if-not-assume_cond.true) at c.assume_cond.ensures.rule in
    (c.in_ok-lists.lists, c.in_ok-lists.ensures, none)

pub returns-clause-rule : goal.returns-clause-rule
returns-clause-rule c =
    (c.in_ok-lists.ensures, rw (c.in_ok-left.ensures, c.if-not-assume_cond.false) at c.assume_cond.ensures.rule)
