use Rattle.sf_behaviour.proofs.Common.{refl, sym}
use Rattle.sf_behaviour.proofs.words.WordLemmas.{word-of-same}
use Rattle.sf_behaviour.proofs.KnowledgeLemmas.{source-kept}
use Rattle.sf_behaviour.proofs.forward.known_after.Goals as goal

pub returns-in_ok-word-in-Sets-clause-after : goal.returns-in_ok-word-in-Sets-clause-after
returns-in_ok-word-in-Sets-clause-after c = rw c.in-Sets.is (record {
  word = c.in_ok-word-in-Sets.word;
  is = refl;
  fixed = λ w e.
      let fixed = c.in_ok-word-in-Sets.ensures.word w e in
      let kept = c.in_ok-word-in-Sets.ensures.store.0.trees in
      (fixed.0, word-of-same fixed.1 (λ bits. sym (source-kept bits c.in-Sets.source kept c.requires.known)));
})
