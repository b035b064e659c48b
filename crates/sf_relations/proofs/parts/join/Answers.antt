use Rattle.sf_relations.proofs.parts.PartLemmas.{behaviours-joined}
use Rattle.sf_relations.proofs.parts.join.Goals as goal

pub returns-clause-joined : goal.returns-clause-joined
returns-clause-joined c = λ first last hf hl.
    behaviours-joined c.args.store.now.trees c.merge.new.store.trees first last c.args.older c.args.newer c.in_ok-id.id
    c.in_ok-id.ensures.within c.in_ok-id.ensures.merged hf hl
