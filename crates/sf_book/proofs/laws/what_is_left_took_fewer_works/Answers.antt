use Rattle.sf_book.proofs.Common.{left_unworked, plain_has_members}
use Rattle.sf_book.proofs.laws.what_is_left_took_fewer_works.Goals as goal

pub returns : goal.returns
returns c = λ b lawful plain left. left_unworked b lawful (plain_has_members b plain) left
