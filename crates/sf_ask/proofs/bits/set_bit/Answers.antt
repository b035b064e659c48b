use Rattle.sf_ask.proofs.bits.BitLemmas.{bits-more}
use Rattle.sf_ask.proofs.bits.set_bit.Goals as goal

pub returns : goal.returns
returns c = λ p. bits-more c.args.bits.now p c.args.q c.told-bits c.requires
