-- Operations and tests of words, bit by bit.
use Rattle.std.specs.Prelude.{ℕ, bit_and, bit_or, bit_xor, List, ◌≡◌, ◌+◌, ◌*◌, ◌<◌, ◌-◌, ◌/◌, ◌%◌, ◌^◌, nat_lt, slice_index, if◌then◌else◌}
use Rattle.sf_behaviour.specs.Common.{Test, Equal, Greater, GreaterOrEqual, AnyBit, BinOp, Lsh, Rsh, Tree, Bits, value, tree_at, chosen_of, Bitwise, And, Or, Xor, Choose, Direction, Left, Right}
use Rattle.sf_behaviour.specs.Words.{IsTruth}

-- what an operation makes of two words, or of two bits, on an input
abbrev pub combined : List Tree → Bits → Bitwise → ℕ → ℕ → ℕ
combined ts bits And a b = bit_and a b
combined ts bits Or a b = bit_or a b
combined ts bits Xor a b = bit_xor a b
combined ts bits (Choose test) a b = chosen_of (value (tree_at ts test) bits) a b

-- the diagram by which an operation chooses, if it does, is 0 or 1 on each input
abbrev pub IsBitwise : List Tree → Bitwise → Type 0
IsBitwise ts (Choose test) = IsTruth ts test
IsBitwise ts _ = Unit {0}

-- what a test says of two words, 1 or 0, by a bit of each and what it says of the lower bits
abbrev pub tested_bits : Test → ℕ → ℕ → ℕ → ℕ
tested_bits Equal a b lower = chosen_of (bit_xor a b) 0 lower
tested_bits Greater a b lower = chosen_of (bit_xor a b) a lower
tested_bits GreaterOrEqual a b lower = chosen_of (bit_xor a b) a lower
tested_bits AnyBit a b lower = chosen_of (bit_and a b) (bit_and a b) lower

-- one bit of a quotient, and what is left of a rest, by the divisor that is moved to the bit
pub record IsDigit (rest divisor digit left : ℕ) : Type 0 where
  pub parts : rest ≡ divisor * digit + left
  pub less : left < divisor

-- the operation on words that a shift is
abbrev pub shift_of : Direction → BinOp
shift_of Left = Lsh
shift_of Right = Rsh

-- a word that is shifted by so many places
abbrev pub shifted_by : Direction → ℕ → ℕ → ℕ
shifted_by Left a places = (a * 2 ^ places) % 2 ^ 32
shifted_by Right a places = a / 2 ^ places

-- what is moved to a bit of 32, the lowest first, by so many places; the last number stands where no bit is moved to
abbrev pub moved : Direction → List ℕ → ℕ → ℕ → ℕ → ℕ
moved Left ids by filler i = if nat_lt i by then filler else slice_index ids (i - by)
moved Right ids by filler i = if nat_lt (by + i) 32 then slice_index ids (by + i) else filler
