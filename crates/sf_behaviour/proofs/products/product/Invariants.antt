use Rattle.sf_behaviour.proofs.Common.{◌*◌, ◌%◌, ◌^◌, KeepsStore, word_value, IsWordOf}
use Rattle.sf_behaviour.proofs.products.product.Given as goal

abbrev pub invariant-loop-i : goal.invariant-loop-i
invariant-loop-i l = record {
  keeps : KeepsStore l.fn.store l.store;
  none : IsWordOf l.store.trees l.none.bits (λ bits. 0);
  total : IsWordOf l.store.trees l.total.bits (λ bits.
      (word_value l.fn.store.trees l.a.bits bits * (word_value l.fn.store.trees l.b.bits bits % 2 ^ l.i)) % 2 ^ 32);
}
