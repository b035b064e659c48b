use Rattle.sf_trace.proofs.laws.OneText.{one_text}
use Rattle.sf_trace.proofs.laws.one_check_text.Goals as goal

pub returns : goal.returns
returns c listed programs a b p q = one_text listed programs a b p q
