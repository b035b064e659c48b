use Rattle.sf_behaviour.proofs.Common.{◌≡◌, ◌%◌, ◌^◌, KeepsStore, word_value, IsTruthOf, IsWordOf, shifted_by}
use Rattle.sf_behaviour.proofs.shifting.shift.Given as goal

abbrev pub invariant-loop-i : goal.invariant-loop-i
invariant-loop-i l = record {
  keeps : KeepsStore l.fn.store l.store;
  none : IsTruthOf l.store.trees l.zero (λ bits. 0);
  places : l.places ≡ 2 ^ l.i;
  word : IsWordOf l.store.trees l.so_far.bits (λ bits. shifted_by l.direction
      (word_value l.fn.store.trees l.word.bits bits) (word_value l.fn.store.trees l.by.bits bits % 2 ^ l.i));
}
