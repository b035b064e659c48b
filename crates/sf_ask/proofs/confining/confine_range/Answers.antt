use Rattle.sf_ask.proofs.Common.{common_steps, arith, confined-by}
use Rattle.sf_ask.proofs.Words.{mapped-ok, range-stays}
use Rattle.sf_ask.proofs.confining.confine_range.Goals as goal

pub returns-then-is_whole-clause-confined : goal.returns-then-is_whole-clause-confined
returns-then-is_whole-clause-confined c = grind (arith, common_steps, range-stays)

pub returns-clause-confined : goal.returns-clause-confined
returns-clause-confined c =
    mapped-ok _ c.confine.result c.map_err.result c.map_err.ensures.cases c.confine.ensures.rule
    (λ b rule. rw c.range-low.ensures at (confined-by c.rules_are_sound.ensures.learning b c.args.facts.now
    c.confine.new.self c.args.pool.now c.args.word _ _ c.requires.covers c.requires.word c.confine.ensures.covers rule))
