use Rattle.sf_dom.proofs.Common.{arc_value, refl}
use Rattle.sf_dom.proofs.Sampled.{grown-facts, grown-covers}
use Rattle.sf_dom.proofs.facts.Facts.grow.Goals as goal

pub invariant_of-self : goal.invariant_of-self
invariant_of-self c =
    let old = arc_value c.self.inside.nodes in
    let rule = rw (c.if-not-branch.false, c.in_ok-nodes.ensures, c.deref-2.ensures) at c.in_ok-append.ensures.rule in
    rw c.in_ok-self-inside.ensures.ok (grown-facts old.variables _ old.known _ c.self.inside.excluded c.args.pool.now
    c.len.ensures.lawful c.self.invariant (rule c.self.invariant.consistent))

pub returns-clause-covers : goal.returns-clause-covers
returns-clause-covers c =
    let rule = rw (c.if-not-branch.false, c.in_ok-nodes.ensures, c.deref-2.ensures) at c.in_ok-append.ensures.rule in
    let listed = rw (c.if-not-branch.false, c.in_ok-nodes.ensures, c.deref-2.ensures) at
    c.in_ok-append.ensures.variables in
    rw (← c.self.view_is, c.in_ok-self-inside.ensures.ok) (λ e before h more. grown-covers _ _ before c.args.pool.now
    c.len.ensures.lawful h more
    (record { known = rule c.self.invariant.consistent; variables = listed; excluded = refl }))
