use Rattle.sf_ask.proofs.Common.{rules, IsNonDecreasingBy-from_sort_by_key, Probe}
use Rattle.sf_ask.proofs.probe.put_in_order.Goals as goal

pub returns-clause-ascending : goal.returns-clause-ascending
returns-clause-ascending c = IsNonDecreasingBy-from_sort_by_key (λ (p : Probe). p.low) _
    c.sort_unstable_by_key.ensures.sorted (λ a r f k. search rules)
