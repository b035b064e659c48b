use Rattle.sf_behaviour.proofs.Common.{arith, insns_of}
use Rattle.sf_behaviour.proofs.steps.StepsLemmas.{after-knowledge, next-inside, next-tells, this-step}
use Rattle.sf_behaviour.proofs.places.diagram_behind.Goals as goal

pub step_at-step-requires : goal.step_at-step-requires
step_at-step-requires c = next-inside c.requires

pub id_at-requires : goal.id_at-requires
id_at-requires c = omega (arith, c.requires.is.behind.count, next-inside c.requires)

pub learn-requires-clause-knowledge : goal.learn-requires-clause-knowledge
learn-requires-clause-knowledge c = after-knowledge (this-step c.requires.is)

pub returns-clause-tells : goal.returns-clause-tells
returns-clause-tells c = c.in_ok-learn.ensures.tells (insns_of c.args.steps.now.items) c.args.place
    (next-tells c.requires c.step_at-step.ensures c.id_at.ensures)
