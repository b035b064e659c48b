use Rattle.sf_dom.proofs.Common.{arith, refl, ext_get_or, known_of}
use Rattle.sf_dom.proofs.facts.are_same_known.Goals as goal

pub returns : goal.returns
returns c = (
  (λ _. ext_get_or (known_of 0 0 0 0) c.args.left.now.known c.args.right.now.known (omega arith)
      (λ k l. c.loop-i.invariant.same k (omega arith))),
  (λ _. refl),
)
