use Rattle.sf_behaviour.proofs.Common.{◌-◌, ◌<◌, length, KeepsStore, AreSteps, TellFrom}
use Rattle.sf_behaviour.proofs.program.returned.Given as goal

abbrev pub invariant-loop-i : goal.invariant-loop-i
invariant-loop-i l = record {
  keeps : KeepsStore l.fn.store l.store;
  steps : AreSteps l.store.trees l.steps.items;
  some : 0 < length l.steps.items;
  behind : TellFrom l.store.trees l.steps.items l.ids.items (length l.steps.items - l.i);
}
