use Rattle.sf_behaviour.proofs.words.WordLemmas.{word-of-kept, word-of-same}
use Rattle.sf_behaviour.proofs.KnowledgeLemmas.{knowledge-kept, operand-kept}
use Rattle.sf_behaviour.proofs.effects.held_words.Goals as goal

pub operand_word-requires : goal.operand_word-requires
operand_word-requires c = knowledge-kept c.in_ok-a.ensures.store.0.trees c.requires.known

pub returns-clause-first : goal.returns-clause-first
returns-clause-first c = word-of-kept c.in_ok-b.ensures.store.0.trees c.in_ok-a.ensures.word

pub returns-clause-second : goal.returns-clause-second
returns-clause-second c = word-of-same c.in_ok-b.ensures.word
    (λ bits. operand-kept bits c.args.other c.in_ok-a.ensures.store.0.trees c.requires.known)
