use Rattle.sf_ask.proofs.Common.{AreConfined, TakeInBefore, IsInBefore, IsNumberBefore}
use Rattle.sf_ask.proofs.confining.facts_in_question.Given as goal

abbrev pub invariant-loop-word : goal.invariant-loop-word
invariant-loop-word l = record {
  confined : AreConfined l.facts l.confined l.pool (IsInBefore l.question l.word) (IsNumberBefore l.question l.word);
  rule : TakeInBefore l.question l.word l.pool l.facts l.confined;
}
