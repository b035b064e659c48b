use Rattle.sf_ask.proofs.Common.{◌≡◌, ℕ, ◌<◌, ◌^◌, length, get_or, known_at}
use Rattle.sf_ask.proofs.judging.least_input.Given as goal

abbrev pub invariant-loop-word : goal.invariant-loop-word
invariant-loop-word l = record {
  long : length l.words ≡ 16;
  small : (i : ℕ) → get_or l.words i 0 < 2 ^ 32;
  lows : (word : ℕ) → word < l.word → get_or l.words word 0 ≡ (known_at l.facts.known word).low;
}
