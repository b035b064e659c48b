use Rattle.sf_relations.proofs.Common.{keeps_more, behaviour_kept}
use Rattle.sf_relations.proofs.findings.find_changes.Goals as goal

pub returns-clause-found : goal.returns-clause-found
returns-clause-found c = λ old new was is.
    let k1 = c.in_ok-looser.ensures.keeps in
    let k2 = keeps_more _ _ _ k1 c.in_ok-tighter.ensures.keeps in
    let k3 = keeps_more _ _ _ k2 c.in_ok-different.ensures.keeps in
    record {
      looser = c.in_ok-looser.ensures.found old new was is;
      tighter = c.in_ok-tighter.ensures.found old new
          (behaviour_kept _ _ old _ k1.trees was) (behaviour_kept _ _ new _ k1.trees is);
      different = c.in_ok-different.ensures.found old new
          (behaviour_kept _ _ old _ k2.trees was) (behaviour_kept _ _ new _ k2.trees is);
      pretended = c.in_ok-pretended.ensures.found old new
          (behaviour_kept _ _ old _ k3.trees was) (behaviour_kept _ _ new _ k3.trees is);
    }
