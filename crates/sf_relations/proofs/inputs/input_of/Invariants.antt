use Rattle.sf_relations.proofs.Common.{◌≡◌, ℕ, ◌<◌, length, get_or, bits_with, input_number}
use Rattle.sf_relations.proofs.inputs.input_of.Given as goal

abbrev pub invariant-loop-word : goal.invariant-loop-word
invariant-loop-word l = record {
  count : length l.words ≡ 16;
  each : (k : ℕ) → k < l.word → get_or l.words k 0 ≡ input_number (bits_with l.variables) k;
}
