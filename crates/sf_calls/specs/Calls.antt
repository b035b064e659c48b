-- The input of a call, and the call of an input.
use Rattle.std.specs.Prelude.{ℕ, ◌+◌, ◌*◌, ◌^◌, ◌/◌, ◌%◌, ◌==◌, ◌&&◌, if◌then◌else◌, List, [], ◌∷◌, slice_index}
use Rattle.std.specs.List.{flat_map}
use Rattle.sf_insn.specs.declared.input.Input.{Input}

-- the low and the high half of a number of 64 bits
abbrev pub halves : ℕ → List ℕ
halves n = n % 2 ^ 32 ∷ n / 2 ^ 32 ∷ []

-- The input of a call, from its number, its architecture and its six arguments: the words of `struct seccomp_data`, in
-- their order. The instruction pointer is 0.
abbrev pub call_input : ℕ → ℕ → List ℕ → Input
call_input nr arch arguments = record { words = nr ∷ arch ∷ 0 ∷ 0 ∷ flat_map halves arguments }

-- the number of 64 bits that has these halves
abbrev pub whole_of : ℕ → ℕ → ℕ
whole_of low high = high * 2 ^ 32 + low

-- the six arguments of an input
abbrev pub arguments_in : Input → List ℕ
arguments_in d =
    whole_of (slice_index d.words 4) (slice_index d.words 5)
    ∷ whole_of (slice_index d.words 6) (slice_index d.words 7)
    ∷ whole_of (slice_index d.words 8) (slice_index d.words 9)
    ∷ whole_of (slice_index d.words 10) (slice_index d.words 11)
    ∷ whole_of (slice_index d.words 12) (slice_index d.words 13)
    ∷ whole_of (slice_index d.words 14) (slice_index d.words 15) ∷ []

-- how many arguments there are up to the last one that isn't 0
abbrev pub count_shown : List ℕ → ℕ
count_shown [] = 0
count_shown (n ∷ ns) = if n == 0 && count_shown ns == 0 then 0 else count_shown ns + 1
