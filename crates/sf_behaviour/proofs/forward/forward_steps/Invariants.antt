use Rattle.sf_behaviour.proofs.Common.{◌≡◌, None, length, KeepsStore, known_of, insns_of, AreKnown, AreSteps, take}
use Rattle.sf_behaviour.proofs.forward.ForwardLemmas.{AreMet, AreZero}
use Rattle.sf_behaviour.proofs.forward.forward_steps.Given as goal

abbrev pub invariant-loop-i : goal.invariant-loop-i
invariant-loop-i l = record {
  keeps : KeepsStore l.fn.store l.store;
  zero : AreZero l.store.trees l.start;
  count : length l.steps.items ≡ l.i;
  code : insns_of l.steps.items ≡ take l.i l.insns;
  steps : AreSteps l.store.trees l.steps.items;
  places : length l.known.items ≡ length l.insns;
  met : AreMet l.steps.items l.known.items;
  known : AreKnown l.store.trees l.known.items;
  first : l.i ≡ 0 → known_of l.known.items l.i ≡ None;
}
