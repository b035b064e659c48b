-- The registers of a run, and their bits as variables of diagrams.
use Rattle.std.specs.Prelude.{ℕ, zero, suc, ◌+◌, ◌-◌, ◌*◌, ◌/◌, ◌%◌, ◌<◌, ◌==◌, ◌&&◌, Bool, List, ◌∷◌, Option, Some, None, slice_index_or, slice_set, if◌then◌else◌}
use Rattle.sf_behaviour.specs.Common.{bit_at, Bits, State}
use Rattle.sf_behaviour.specs.InputBits.{number_by}

-- A register is given by its number: A, X, and then M[0] to M[15].
abbrev pub A : ℕ
A = 0

abbrev pub X : ℕ
X = 1

-- there is such a register
abbrev pub IsRegister : ℕ → Type 0
IsRegister r = r < 18

-- The variable of a register's highest bit. Two registers have 64 variables together, in turns.
abbrev pub register_first : ℕ → ℕ
register_first r = 64 * (r / 2) + r % 2

-- the number that a register has where these variables are true
abbrev pub register_by : ℕ → Bits → ℕ
register_by r bits = number_by (register_first r) 2 32 bits

-- which bit of the register a variable is, if it is one
abbrev pub register_bit : ℕ → ℕ → Option ℕ
register_bit r variable =
    if (variable / 64 == r / 2) && (variable % 2 == r % 2) then Some (31 - variable % 64 / 2) else None

-- the variables with those of a register as this number has them
abbrev pub with_register : ℕ → ℕ → Bits → Bits
with_register r n bits variable = from (register_bit r variable)
  where
    from : Option ℕ → Bool
    from (Some i) = bit_at n i == 1
    from None = bits variable

-- the numbers of a state's registers; None for a scratch word that isn't set
abbrev pub registers_of : State → List (Option ℕ)
registers_of s = Some s.a ∷ Some s.x ∷ s.scratch

-- the number of a register in a state, if it has one
abbrev pub register_number : State → ℕ → Option ℕ
register_number s r = slice_index_or (registers_of s) r None

-- the next place's state, with this number in a register
abbrev pub next_with : State → ℕ → ℕ → State
next_with s zero n = record s { place = s.place + 1; a = n }
next_with s (suc zero) n = record s { place = s.place + 1; x = n }
next_with s (suc (suc k)) n = record s { place = s.place + 1; scratch = slice_set s.scratch k (Some n) }
