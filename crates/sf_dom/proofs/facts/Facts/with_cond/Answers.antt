use Rattle.sf_dom.proofs.Common.{covers-facts}
use Rattle.sf_dom.proofs.Assumed.{learns-covers}
use Rattle.sf_dom.proofs.facts.Facts.with_cond.Goals as goal

pub returns-in-None-clause-rule : goal.returns-in-None-clause-rule
returns-in-None-clause-rule c =
    let none = rw (c.in-None.is, c.deref.ensures) at c.in_ok-learn_cond.ensures.rule in
    rw (← c.self.view_is) (record { sets = none.0; excluded = none.1; none = none.2 })

pub returns-in_ok-new-in-Some-clause-covers : goal.returns-in_ok-new-in-Some-clause-covers
returns-in_ok-new-in-Some-clause-covers c =
    let told = rw (c.in-Some.is, c.deref.ensures) at c.in_ok-learn_cond.ensures.rule in
    let places = rw (c.in-Some.is, c.deref.ensures) at c.in_ok-learn_cond.ensures.variables in
    rw c.in_ok-new-in-Some.ensures.ok (learns-covers _ c.args.pool.now c.args.cond.now
    (rw (← c.self.view_is) at c.requires.covers) c.requires.below _
    (record { excluded = told.0; known = told.1; variables = places }))

pub invariant_of-result : goal.invariant_of-result
invariant_of-result c = covers-facts _ c.args.pool.now (returns-in_ok-new-in-Some-clause-covers c)
