use Rattle.sf_policy.proofs.Common.{common_steps, arith}
use Rattle.sf_policy.proofs.policy.words.TreeLemmas.{one_more_read, not_read}
use Rattle.sf_policy.proofs.policy.words.entries_at.Goals as goal

pub returns-in_err-words : goal.returns-in_err-words
returns-in_err-words c = search (arith, not_read)

pub loop-i-preserved : goal.loop-i-preserved
loop-i-preserved c = grind (arith, common_steps, one_more_read)
