use Rattle.std.proofs.Common.{All}
use Rattle.sf_profile.proofs.Common.{AnswerZero}
use Rattle.sf_profile.proofs.zeros.zeros_among.Given as goal

abbrev pub invariant-loop-words : goal.invariant-loop-words
invariant-loop-words l = All (AnswerZero l.stack) l.numbers.items
