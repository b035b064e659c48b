use Rattle.sf_rows.proofs.Common.{take, if◌then◌else◌, KeepsStore, IsDiagramOf, word_number, is_named_call}
use Rattle.sf_rows.proofs.others.named_calls.Given as goal

abbrev pub invariant-loop-names : goal.invariant-loop-names
invariant-loop-names l = record {
  keeps : KeepsStore l.fn.store l.store;
  values : IsDiagramOf l.store.trees l.named
      (λ b. if is_named_call (take l.names-index l.sets) (word_number 18 b) (word_number 19 b) then 1 else 0);
}
