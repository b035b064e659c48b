-- What is found of a relation between the answers of two stacks.
use Rattle.std.specs.Prelude.{List, Option, Some, None}
use Rattle.sf_relations.specs.Common.{Input, IsInput, Insn, Answer, Answers, Relation, Example}
use Rattle.sf_relations.specs.Relations.{AreRelated}
use Rattle.sf_relations.specs.Order.{ComesBefore}

-- An input is changed in the way of a relation: the old stack gives the answer `before` to it, the new one the answer
-- `after`, and these two have the relation.
pub record IsChange (old new : List (List Insn)) (relation : Relation) (d : Input)
    (before after : Answer) : Type 0 where
  pub input : IsInput d
  pub answered_before : Answers old d before
  pub answered_after : Answers new d after
  pub related : AreRelated relation before after

-- no input is changed in the way of a relation
abbrev pub IsUnchanged : List (List Insn) → List (List Insn) → Relation → Type 0
IsUnchanged old new relation = (d : Input) (before after : Answer) → IsChange old new relation d before after → ⊥

-- the example's input is changed in the way of a relation, and no input is that comes before it
pub record IsLeastChange (old new : List (List Insn)) (relation : Relation) (e : Example) : Type 0 where
  pub change : IsChange old new relation e.input e.before e.after
  pub least : (d : Input) (before after : Answer) → ComesBefore d e.input
      → IsChange old new relation d before after → ⊥

-- What is found of a relation. None: no input is changed in its way. Some: the least such input, with both answers.
abbrev pub IsFinding : List (List Insn) → List (List Insn) → Relation → Option Example → Type 0
IsFinding old new relation None = IsUnchanged old new relation
IsFinding old new relation (Some e) = IsLeastChange old new relation e
