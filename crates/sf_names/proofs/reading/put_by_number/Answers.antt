use Rattle.sf_names.proofs.Common.{arith, rules, always_returns_same, IsNonDecreasingBy-from_sort_by_key, on_ok_weaker, CallData}
use Rattle.sf_names.proofs.reading.put_by_number.Goals as goal

pub returns : goal.returns
returns c = on_ok_weaker c.sort_by_key.result (λ sorted. record {
  same = c.sort_by_key.ensures.permutation;
  order = IsNonDecreasingBy-from_sort_by_key (λ (x : CallData). x.number) _ sorted (λ a r q k. search rules);
  stable = search (arith, always_returns_same);
}) c.sort_by_key.ensures.sorted
