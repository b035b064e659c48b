use Rattle.sf_rows.proofs.Common.{◌≡◌, ℕ, ◌<◌, ◌^◌, map, take, All, CallData}
use Rattle.sf_rows.proofs.others.numbers_of.Given as goal

abbrev pub invariant-loop-call : goal.invariant-loop-call
invariant-loop-call l = record {
  numbers : l.numbers.items ≡ map (λ (c : CallData). c.number) (take l.call-index l.calls);
  small : All (λ (n : ℕ). n < 2 ^ 32) l.numbers.items;
}
