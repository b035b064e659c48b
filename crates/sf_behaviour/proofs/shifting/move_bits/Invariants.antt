use Rattle.sf_behaviour.proofs.Common.{◌≡◌, ℕ, ◌<◌, length, slice_index, moved}
use Rattle.sf_behaviour.proofs.shifting.move_bits.Given as goal

abbrev pub invariant-loop-i : goal.invariant-loop-i
invariant-loop-i l = record {
  count : length l.bits ≡ 32;
  each : (j : ℕ) → j < l.i → slice_index l.bits j ≡ moved l.direction l.word.bits l.by l.zero j;
}
