use Rattle.sf_compare.proofs.Common.{arith, behaviour_kept}
use Rattle.sf_compare.proofs.comparison.PassingLemmas.{refusing, refusing-behaviour, some_through}
use Rattle.sf_compare.proofs.comparison.lets_some_through.Goals as goal

pub least_example-requires-clause-before : goal.least_example-requires-clause-before
least_example-requires-clause-before c = c.in_ok-refused.ensures.within

pub least_example-requires-clause-after : goal.least_example-requires-clause-after
least_example-requires-clause-after c = omega (arith, c.requires, c.in_ok-refused.ensures.keeps.trees.longer)

pub returns-clause-through : goal.returns-clause-through
returns-clause-through c = λ programs is.
    let ts = c.leaf.new.self.trees in
    let found = c.in_ok-found.ensures.found refusing programs
    (refusing-behaviour ts c.in_ok-refused.refused c.in_ok-refused.ensures.within c.in_ok-refused.ensures.tree)
    (behaviour_kept c.args.store.now.trees ts programs c.args.answers c.in_ok-refused.ensures.keeps.trees is) in
    rw c.is_some.ensures (some_through programs c.in_ok-found.found found)
