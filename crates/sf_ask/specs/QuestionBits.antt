-- Questions as bits of four words.
use Rattle.std.specs.Prelude.{ℕ, ◌/◌, ◌%◌, ◌==◌, Bool, List, slice_index}
use Rattle.sf_ask.specs.Common.{bit_at}

-- the bit of question q in four words of 64 bits: bit q % 64 of word q / 64
abbrev pub bit_of : List ℕ → ℕ → ℕ
bit_of bits q = bit_at (slice_index bits (q / 64)) (q % 64)

-- the bit of the question is set
abbrev pub has_bit : List ℕ → ℕ → Bool
has_bit bits q = bit_of bits q == 1
