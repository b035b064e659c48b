use Rattle.sf_dom.proofs.Common.{arith, arc_value, Agrees, known_at}
use Rattle.sf_dom.proofs.Sampled.{undecided, decided-some, decided-none}
use Rattle.sf_dom.proofs.facts.Facts.decided.Goals as goal

pub returns-clause-some : goal.returns-clause-some
unfolding Agrees
returns-clause-some c = search (arith, decided-some)

pub returns-clause-none : goal.returns-clause-none
unfolding Agrees
returns-clause-none c =
    let covers = rw (← c.self.view_is) at c.requires.covers in
    let told = rw (c.get-known.ensures, c.deref.ensures) at c.decided.ensures in
    rw (← c.self.view_is) (λ plain e n all.
    undecided _ c.args.pool.now c.args.node.0 n covers plain c.requires.node
    (decided-none c.decided.result (known_at (arc_value c.self.inside.nodes).known c.args.node.0) told e) all)
