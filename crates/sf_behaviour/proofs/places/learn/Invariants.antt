use Rattle.sf_behaviour.proofs.Common.{◌≡◌, ◌<◌, ℕ, List, length, Insn, KeepsStore, known_word, IsLess, Tells}
use Rattle.sf_behaviour.proofs.places.learn.Given as goal

abbrev pub invariant-loop-register : goal.invariant-loop-register
invariant-loop-register l = record {
  keeps : KeepsStore l.fn.store l.store;
  within : l.learnt < length l.store.trees;
  count : length l.so_far ≡ 18;
  less : IsLess l.so_far l.more;
  same : (r : ℕ) → r < l.register → known_word l.so_far r ≡ known_word l.more r;
  tells : (code : List Insn) (place : ℕ) → Tells code place l.fn.store.trees l.known l.id
      → Tells code place l.store.trees l.so_far l.learnt;
}
