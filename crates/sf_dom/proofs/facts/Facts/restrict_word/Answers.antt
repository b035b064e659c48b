use Rattle.sf_dom.proofs.Common.{arith, refl, covers-facts}
use Rattle.sf_dom.proofs.Assumed.{confines-covers}
use Rattle.sf_dom.proofs.facts.Facts.restrict_word.Goals as goal

pub returns-in-None-clause-rule : goal.returns-in-None-clause-rule
returns-in-None-clause-rule c =
    rw (← c.self.view_is) (rw (c.in-None.is, c.deref.ensures) at c.in_ok-restrict.ensures.rule)

pub returns-in_ok-self-inside-in-Some-clause-covers : goal.returns-in_ok-self-inside-in-Some-clause-covers
returns-in_ok-self-inside-in-Some-clause-covers c =
    let told = rw (c.in-Some.is, c.deref.ensures) at c.in_ok-restrict.ensures.rule in
    let places = rw (c.in-Some.is, c.deref.ensures) at c.in_ok-restrict.ensures.variables in
    rw c.in_ok-self-inside-in-Some.ensures.ok (confines-covers _ c.args.pool.now c.args.word c.args.more
    (rw (← c.self.view_is) at c.requires.covers) c.requires.word (omega arith) _
    (record { known = told; variables = places; excluded = refl }))

pub invariant_of-self : goal.invariant_of-self
invariant_of-self c = covers-facts _ c.args.pool.now (returns-in_ok-self-inside-in-Some-clause-covers c)
