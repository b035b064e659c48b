use Rattle.sf_behaviour.proofs.Common.{ℕ, ◌<◌, slice_index, IsOrderedFrom, tree_at}
use Rattle.sf_behaviour.proofs.forward.is_input_word.Given as goal

abbrev pub invariant-loop-i : goal.invariant-loop-i
invariant-loop-i l = (j : ℕ) → j < l.i → IsOrderedFrom 576 (tree_at l.store.trees (slice_index l.word.bits j))
