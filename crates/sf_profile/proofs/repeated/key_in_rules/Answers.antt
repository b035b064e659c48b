use Rattle.sf_profile.proofs.Common.{◌<◌, length, sym, subst, arith, value_view, IsReadBack}
use Rattle.sf_profile.proofs.repeats.RepeatLemmas.{read_back_here}
use Rattle.sf_profile.proofs.repeated.key_in_rules.Goals as goal

pub key_in_value-requires : goal.key_in_value-requires
key_in_value-requires c =
    let within : c.loop-rule.rule-index < length c.args.rules.now = omega arith in
    subst (λ v. IsReadBack (value_view v)) (sym c.rule-item.is)
    (read_back_here c.args.rules.now c.loop-rule.rule-index c.rule-item.result within c.loop-rule.invariant).0

pub loop-rule-preserved : goal.loop-rule-preserved
loop-rule-preserved c =
    let within : c.loop-rule.rule-index < length c.args.rules.now = omega arith in
    (read_back_here c.args.rules.now c.loop-rule.rule-index c.rule-item.result within c.loop-rule.invariant).1
