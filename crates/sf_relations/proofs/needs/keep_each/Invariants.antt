use Rattle.sf_relations.proofs.Common.{ℕ, ◌<◌, length, All, KeepsStore, IsBehaviour, AreParts, AreKeptUpTo, filters_at}
use Rattle.sf_relations.proofs.needs.keep_each.Given as goal

abbrev pub invariant-loop-place : goal.invariant-loop-place
invariant-loop-place l = record {
  keeps : KeepsStore l.fn.store l.store;
  parts : AreParts l.store.trees l.programs (length l.programs) l.alone l.last;
  older : IsBehaviour (filters_at l.programs l.kept.items) l.store.trees l.older;
  below : All (λ (p : ℕ). p < l.place) l.kept.items;
  kept : AreKeptUpTo l.programs l.place l.kept.items;
}
