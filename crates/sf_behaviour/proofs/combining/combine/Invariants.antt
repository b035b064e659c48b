use Rattle.sf_behaviour.proofs.Common.{KeepsStore, word_value, combined}
use Rattle.sf_behaviour.proofs.words.WordLemmas.{IsBegun}
use Rattle.sf_behaviour.proofs.combining.combine.Given as goal

abbrev pub invariant-loop-i : goal.invariant-loop-i
invariant-loop-i l = record {
  keeps : KeepsStore l.fn.store l.store;
  begun : IsBegun l.i l.store.trees l.bits (λ bits. combined l.fn.store.trees bits l.operation
      (word_value l.fn.store.trees l.a.bits bits) (word_value l.fn.store.trees l.b.bits bits));
}
