use Rattle.sf_dom.proofs.Common.{arith, Agrees, agreeing-word, covers-facts, sampled, words-agree}
use Rattle.sf_dom.proofs.facts.Facts.least.Goals as goal

pub returns-clause-lower : goal.returns-clause-lower
returns-clause-lower c = search (arith, agreeing-word)

pub returns-clause-attained : goal.returns-clause-attained
unfolding Agrees
returns-clause-attained c = λ ns h plain.
    let w = c.args.word in let f = c.args.self.now in let facts = covers-facts f ns h in
    let s = sampled f w _ c.requires facts (facts.tight w c.requires).low in
    (s.0, s.1, words-agree f ns s.0 h plain s.2, s.3)
