use Rattle.sf_rows.proofs.Common.{◌≡◌, ◌==◌, take, not, bit_at, filter}
use Rattle.sf_rows.proofs.others.parted.Given as goal

abbrev pub invariant-loop-number : goal.invariant-loop-number
invariant-loop-number l = record {
  set : l.set.items ≡ filter (λ n. bit_at n l.bit == 1) (take l.number-index l.numbers);
  unset : l.unset.items ≡ filter (λ n. not (bit_at n l.bit == 1)) (take l.number-index l.numbers);
}
