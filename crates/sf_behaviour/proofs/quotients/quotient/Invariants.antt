use Rattle.sf_behaviour.proofs.Common.{◌≡◌, ℕ, ◌-◌, ◌*◌, ◌/◌, ◌%◌, ◌<◌, ◌≤◌, ◌^◌, bit_at, slice_index, Bits, value, tree_at, KeepsStore, word_value, IsWord, IsWordOf}
use Rattle.sf_behaviour.proofs.quotients.quotient.Given as goal

abbrev pub invariant-loop-i : goal.invariant-loop-i
invariant-loop-i l = record {
  keeps : KeepsStore l.fn.store l.store;
  none : IsWordOf l.store.trees l.none.bits (λ bits. 0);
  rest : IsWord l.store.trees l.rest.bits;
  made : IsWord l.store.trees l.bits;
  digits : (j : ℕ) (bits : Bits) → 32 - l.i ≤ j → j < 32 → 0 < word_value l.fn.store.trees l.b.bits bits
      → value (tree_at l.store.trees (slice_index l.bits j)) bits
      ≡ bit_at (word_value l.fn.store.trees l.a.bits bits / word_value l.fn.store.trees l.b.bits bits) j;
  left : (bits : Bits) → 0 < word_value l.fn.store.trees l.b.bits bits → word_value l.store.trees l.rest.bits bits
      ≡ word_value l.fn.store.trees l.a.bits bits % (word_value l.fn.store.trees l.b.bits bits * 2 ^ (32 - l.i));
}
