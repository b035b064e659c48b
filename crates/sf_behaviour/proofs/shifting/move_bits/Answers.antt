use Rattle.sf_behaviour.proofs.Common.{arith}
use Rattle.sf_behaviour.proofs.ShiftLemmas.{moved-word}
use Rattle.sf_behaviour.proofs.shifting.move_bits.Goals as goal

pub returns : goal.returns
returns c = λ ts f w zero. moved-word c.args.direction c.args.by c.loop-i.invariant.count
    (λ i l. c.loop-i.invariant.each i (omega arith)) w zero
