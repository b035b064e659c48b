use Rattle.sf_book.proofs.Common.{one_for_each_trace, plain_has_members}
use Rattle.sf_book.proofs.laws.at_most_one_for_each_trace.Goals as goal

pub returns : goal.returns
returns c = λ b lawful plain. one_for_each_trace b lawful (plain_has_members b plain)
