use Rattle.sf_behaviour.proofs.Common.{◌≡◌, ◌-◌, ◌/◌, ◌<◌, ◌^◌, length, Bits, value, tree_at, KeepsStore, word_value}
use Rattle.sf_behaviour.proofs.words.number_diagram.Given as goal

abbrev pub invariant-loop-i : goal.invariant-loop-i
invariant-loop-i l = record {
  keeps : KeepsStore l.fn.store l.store;
  within : l.number < length l.store.trees;
  so_far : (bits : Bits) → value (tree_at l.store.trees l.number) bits
      ≡ word_value l.fn.store.trees l.word.bits bits / 2 ^ (32 - l.i);
}
