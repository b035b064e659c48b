use Rattle.sf_behaviour.proofs.Common.{◌≡◌, List, map, Insn, KeepsStore, HasAnswers}
use Rattle.sf_behaviour.proofs.answers.AnswerLemmas.{returns_on}
use Rattle.sf_behaviour.proofs.answers.behaviour.Given as goal

abbrev pub invariant-loop-program : goal.invariant-loop-program
invariant-loop-program l = record {
  keeps : KeepsStore l.fn.store l.store;
  programs : List (List Insn);
  given : programs ≡ map (λ p. p.now) l.yielded;
  answers : HasAnswers (returns_on programs) l.store.trees l.so_far;
}
