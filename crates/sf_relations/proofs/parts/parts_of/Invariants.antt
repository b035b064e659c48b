use Rattle.sf_relations.proofs.Common.{◌-◌, length, drop, KeepsStore, IsBehaviour, AreParts}
use Rattle.sf_relations.proofs.parts.parts_of.Given as goal

abbrev pub invariant-loop-i : goal.invariant-loop-i
invariant-loop-i l = record {
  keeps : KeepsStore l.fn.store l.store;
  so_far : IsBehaviour (drop (length l.programs - l.i) l.programs) l.store.trees l.so_far;
  parts : AreParts l.store.trees l.programs l.i l.alone.items l.last.items;
}
