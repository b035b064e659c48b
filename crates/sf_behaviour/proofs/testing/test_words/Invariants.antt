use Rattle.sf_behaviour.proofs.Common.{◌%◌, ◌^◌, KeepsStore, word_value, IsTruthOf}
use Rattle.sf_behaviour.proofs.BitLemmas.{truth_of}
use Rattle.sf_behaviour.proofs.testing.test_words.Given as goal

abbrev pub invariant-loop-i : goal.invariant-loop-i
invariant-loop-i l = record {
  keeps : KeepsStore l.fn.store l.store;
  passed : IsTruthOf l.store.trees l.passed (λ bits. truth_of l.test
      (word_value l.fn.store.trees l.a.bits bits % 2 ^ l.i) (word_value l.fn.store.trees l.b.bits bits % 2 ^ l.i));
}
