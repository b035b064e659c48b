use Rattle.sf_behaviour.proofs.Common.{◌∙◌, refl, sym, arith, Equal, passes, X, held_in, operand_in, Constant}
use Rattle.sf_behaviour.proofs.TellLemmas.{chosen-diagram}
use Rattle.sf_behaviour.proofs.KnowledgeLemmas.{in-kept, knowledge-kept}
use Rattle.sf_behaviour.proofs.places.guarded_diagram.Goals as goal

pub test_diagram-requires-clause-known : goal.test_diagram-requires-clause-known
test_diagram-requires-clause-known c = knowledge-kept c.in_ok-zero.ensures.keeps.trees c.requires.known

pub returns-clause-values : goal.returns-clause-values
returns-clause-values c =
    let us = c.leaf.new.self.trees in
    let zero = c.in_ok-zero.ensures in
    let chosen = chosen-diagram us _ _
    (λ bits. passes Equal (held_in us c.args.known.now bits X) (operand_in us c.args.known.now bits (Constant 0)))
    _ c.in_ok-zero.zero c.args.id _ c.in_ok-is_zero.ensures.store.0.trees zero.within
    (omega (arith, c.requires.within, zero.keeps.trees.longer)) c.in_ok-is_zero.ensures.truth
    c.in_ok-guarded.ensures.within c.in_ok-guarded.ensures.chosen in
    let same = zero.keeps.trees.same c.args.id c.requires.within in
    rw (sym c.is_quotient.ensures ∙ c.if-not-is_quotient.false) (record {
      within = chosen.within;
      values = λ bits.
          chosen.values bits ∙ rw (in-kept bits X zero.keeps.trees c.requires.known, zero.tree, same) refl;
    })
