use Rattle.sf_ask.proofs.Common.{common_steps, arith, rules, eqb-true, masked-by}
use Rattle.sf_ask.proofs.Words.{mapped-ok, mask-stays}
use Rattle.sf_ask.proofs.Confinements.{mask-rule, is-other}
use Rattle.sf_ask.proofs.confining.confine_mask.Goals as goal

pub returns-then-mask-eq0-clause-confined : goal.returns-then-mask-eq0-clause-confined
returns-then-mask-eq0-clause-confined c = grind (arith, common_steps, mask-stays, eqb-true)

pub returns-clause-confined : goal.returns-clause-confined
returns-clause-confined c =
    mapped-ok _ c.confine_bits.result c.map_err.result c.map_err.ensures.cases c.confine_bits.ensures.rule
    (λ b rule. rw c.mask-mask.ensures.value at (masked-by c.rules_are_sound.ensures.learning b c.args.facts.now
    c.confine_bits.new.self c.args.pool.now c.args.word c.mask-mask.result.0 c.mask-mask.result.1 c.requires.covers
    c.requires.word (omega arith) (search rules) c.confine_bits.ensures.covers rule))

pub returns-clause-rule : goal.returns-clause-rule
returns-clause-rule c =
    mapped-ok _ c.confine_bits.result c.map_err.result c.map_err.ensures.cases c.confine_bits.ensures.rule
    (λ b rule. mask-rule b c.args.question.now c.args.word c.args.pool.now c.args.facts.now c.confine_bits.new.self
    (is-other _ _ (rw c.mask-mask.ensures.value at c.if-mask-eq0.false)) (rw c.mask-mask.ensures.value at rule))
