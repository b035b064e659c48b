-- Answers by their numbers, for contracts between functions of this crate.
use Rattle.std.specs.Prelude.{◌≡◌, ℕ, List}
use Rattle.sf_relations.specs.Common.{Tree, Bits, value, tree_at, Operation, input_by, answer_with, Example, Relation, Looser, Tighter, Different, Pretended}
use Rattle.sf_diagram.specs.declared.operation.Operation.TheVariants as operations

-- what makes of the numbers of two answers a number that isn't 0 just where they have the relation
abbrev pub operation_of : Relation → Operation
operation_of Looser = operations.Looser
operation_of Tighter = operations.Tighter
operation_of Different = operations.Different
operation_of Pretended = operations.Pretended

-- the input of some variables, and its answers by two diagrams of answers
pub record IsExampleAt (ts : List Tree) (before after : ℕ) (bits : Bits) (e : Example) : Type 0 where
  pub input : e.input ≡ input_by bits
  pub before_is : e.before ≡ answer_with (value (tree_at ts before) bits)
  pub after_is : e.after ≡ answer_with (value (tree_at ts after) bits)
