use Rattle.sf_behaviour.proofs.Common.{sym, word_value, arith}
use Rattle.sf_behaviour.proofs.words.WordLemmas.{own-number}
use Rattle.sf_behaviour.proofs.KnowledgeLemmas.{set-same}
use Rattle.sf_behaviour.proofs.TellLemmas.{tells-more-known}
use Rattle.sf_behaviour.proofs.places.learn_register.Goals as goal

pub returns-in-Some-clause-known : goal.returns-in-Some-clause-known
returns-in-Some-clause-known c =
    set-same c.args.known.now c.args.register (grind (arith, c.in-Some.ensures, c.requires.less c.args.register))

pub returns-in_ok-made-in-Some-word_of-clause-tells : goal.returns-in_ok-made-in-Some-word_of-clause-tells
returns-in_ok-made-in-Some-word_of-clause-tells c =
    let by = c.in-Some-word_of.by in
    let has = sym c.in-Some-word_of.ensures in
    let made = c.in_ok-made-in-Some-word_of.ensures in
    tells-more-known c.args.register by made.store.0.trees c.requires.knowledge c.requires.less c.requires.count
    c.requires.register has (sym c.in-None.ensures) (made.replaced (word_value c.args.store.now.trees by.bits)
    (own-number (c.requires.knowledge.each c.args.register by has).word))
