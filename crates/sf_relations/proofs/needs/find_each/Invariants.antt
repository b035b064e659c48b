use Rattle.sf_relations.proofs.Common.{◌≡◌, ℕ, ◌<◌, None, length, take, remove, slice_index_or, KeepsStore, IsBehaviour, Looser, IsFinding, AreParts}
use Rattle.sf_relations.proofs.needs.find_each.Given as goal

abbrev pub invariant-loop-place : goal.invariant-loop-place
invariant-loop-place l = record {
  keeps : KeepsStore l.fn.store l.store;
  parts : AreParts l.store.trees l.programs (length l.programs) l.alone l.last;
  older : IsBehaviour (take l.place l.programs) l.store.trees l.older;
  count : length l.findings.items ≡ l.place;
  found : (k : ℕ) → k < l.place
      → IsFinding l.programs (remove l.programs k) Looser (slice_index_or l.findings.items k None);
}
