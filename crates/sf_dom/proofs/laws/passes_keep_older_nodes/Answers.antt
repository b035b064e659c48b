use Rattle.sf_dom.proofs.Common.{arith, refl}
use Rattle.sf_dom.proofs.Passes.{rest-passed, same-up_to}
use Rattle.sf_dom.proofs.laws.passes_keep_older_nodes.Goals as goal

pub returns : goal.returns
returns c old new ex ns i p l pass rest =
    same-up_to old new old ex ns p i l (λ k b. pass.each k (omega arith))
    (λ k b. rest-passed old old ex ns k refl (rest k b))
