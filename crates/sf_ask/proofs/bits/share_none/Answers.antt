use Rattle.sf_ask.proofs.Common.{arith}
use Rattle.sf_ask.proofs.bits.BitLemmas.{apart}
use Rattle.sf_ask.proofs.bits.share_none.Goals as goal

pub returns : goal.returns
returns c = search (arith, apart)
