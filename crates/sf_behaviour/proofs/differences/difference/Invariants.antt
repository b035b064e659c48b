use Rattle.sf_behaviour.proofs.Common.{◌≡◌, ℕ, ◌+◌, ◌*◌, ◌%◌, ◌<◌, ◌^◌, Bits, value, tree_at, KeepsStore, word_value, IsTruth}
use Rattle.sf_behaviour.proofs.words.WordLemmas.{IsBegun}
use Rattle.sf_behaviour.proofs.differences.difference.Given as goal

abbrev pub invariant-loop-i : goal.invariant-loop-i
invariant-loop-i l = record {
  keeps : KeepsStore l.fn.store l.store;
  borrowed : IsTruth l.store.trees l.borrowed;
  made : Bits → ℕ;
  begun : IsBegun l.i l.store.trees l.bits made;
  small : (bits : Bits) → made bits < 2 ^ l.i;
  so_far : (bits : Bits) → made bits + word_value l.fn.store.trees l.b.bits bits % 2 ^ l.i
      ≡ word_value l.fn.store.trees l.a.bits bits % 2 ^ l.i + value (tree_at l.store.trees l.borrowed) bits * 2 ^ l.i;
}
