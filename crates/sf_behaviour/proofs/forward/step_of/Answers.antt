use Rattle.sf_behaviour.proofs.KnowledgeLemmas.{knowledge-kept}
use Rattle.sf_behaviour.proofs.forward.step_of.Goals as goal

pub returns-clause-step : goal.returns-clause-step
returns-clause-step c = record {
  effect = c.effect_of-effect.ensures;
  known = knowledge-kept c.in_ok-after.ensures.store.0.trees c.requires.known;
  after = c.in_ok-after.ensures.after;
}
