use Rattle.sf_book.proofs.Common.{worked_off, plain_has_members}
use Rattle.sf_book.proofs.laws.what_is_worked_off_names_each_trace.Goals as goal

pub returns : goal.returns
returns c = λ b settled plain. worked_off b settled (plain_has_members b plain)
