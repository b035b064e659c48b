use Rattle.sf_behaviour.proofs.Common.{KeepsStore, number_by}
use Rattle.sf_behaviour.proofs.words.WordLemmas.{IsBegun}
use Rattle.sf_behaviour.proofs.words.variable_word.Given as goal

abbrev pub invariant-loop-i : goal.invariant-loop-i
invariant-loop-i l = record {
  keeps : KeepsStore l.fn.store l.store;
  begun : IsBegun l.i l.store.trees l.bits (number_by l.first l.distance 32);
}
