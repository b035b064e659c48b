-- The bits of an input as variables of diagrams.
use Rattle.std.specs.Prelude.{ℕ, zero, suc, ◌+◌, ◌-◌, ◌*◌, ◌/◌, ◌%◌, ◌^◌, ◌==◌, List, [], ◌∷◌, map, slice_index, if◌then◌else◌}
use Rattle.sf_behaviour.specs.Common.{range_with_len, bit_at, Input, Bits}

-- The number that the lowest n bits of a word make where these variables are true. The word's 32 bits are variables at
-- equal distances, its highest bit the first of them.
unfoldable pub number_by : ℕ → ℕ → ℕ → Bits → ℕ
number_by first distance zero bits = 0
number_by first distance (suc n) bits =
    (if bits (first + distance * (31 - n)) then 1 else 0) * 2 ^ n + number_by first distance n bits

-- Where each word of an input stands in the order of variables: architecture, number of the call, arguments,
-- instruction pointer, of two halves the upper one first.
abbrev pub places_of_words : List ℕ
places_of_words = 1 ∷ 0 ∷ 15 ∷ 14 ∷ 3 ∷ 2 ∷ 5 ∷ 4 ∷ 7 ∷ 6 ∷ 9 ∷ 8 ∷ 11 ∷ 10 ∷ 13 ∷ 12 ∷ []

-- The first variable of a word of the input. The 576 variables before are the bits of registers.
abbrev pub input_first : ℕ → ℕ
input_first word = 576 + 32 * slice_index places_of_words word

-- the number of a word of the input
abbrev pub input_number : Bits → ℕ → ℕ
input_number bits word = number_by (input_first word) 1 32 bits

-- the input that has these variables
abbrev pub input_by : Bits → Input
input_by bits = record { words = map (input_number bits) (range_with_len 0 16) }

-- the words of an input in the order of their variables
abbrev pub words_in_order : List ℕ
words_in_order = 1 ∷ 0 ∷ 5 ∷ 4 ∷ 7 ∷ 6 ∷ 9 ∷ 8 ∷ 11 ∷ 10 ∷ 13 ∷ 12 ∷ 15 ∷ 14 ∷ 3 ∷ 2 ∷ []

-- variables that an input has
abbrev pub input_bits : Input → Bits
input_bits d variable =
    bit_at (slice_index d.words (slice_index words_in_order ((variable - 576) / 32))) (31 - variable % 32) == 1
