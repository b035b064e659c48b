-- Answers as numbers at the leaves of diagrams.
use Rattle.std.specs.Prelude.{ℕ, ◌<◌, ◌^◌, List, length}
use Rattle.sf_behaviour.specs.Common.{Insn, Tree, Bits, value, tree_at, returns_of, action_bits, data_bits, action_of, IsAnswer, Answer}
use Rattle.sf_behaviour.specs.InputBits.{input_by}

-- the answer that a return value names
abbrev pub answer_with : ℕ → Answer
answer_with value = record { action = action_of (action_bits value); info = data_bits value }

-- a diagram whose values, which are words, name the answers that return values make
pub record HasAnswers (values : Bits → List ℕ) (ts : List Tree) (id : ℕ) : Type 0 where
  pub within : id < length ts
  pub small : (bits : Bits) → value (tree_at ts id) bits < 2 ^ 32
  pub answers : (bits : Bits) → IsAnswer (values bits) (answer_with (value (tree_at ts id) bits))

-- a diagram of the answers of a stack to all inputs
abbrev pub IsBehaviour : List (List Insn) → List Tree → ℕ → Type 0
IsBehaviour programs ts id = HasAnswers (λ bits. returns_of programs (input_by bits)) ts id
