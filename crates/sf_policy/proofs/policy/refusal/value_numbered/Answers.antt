use Rattle.sf_policy.proofs.Common.{arith}
use Rattle.sf_policy.proofs.policy.words.TreeLemmas.{numbered_view}
use Rattle.sf_policy.proofs.policy.refusal.value_numbered.Goals as goal

pub returns-else-number-eq0 : goal.returns-else-number-eq0
returns-else-number-eq0 c =
    numbered_view c.args.items.now c.args.number c.get.result (omega (arith, c.if-number-eq0.false))
    c.get.ensures.lookup
