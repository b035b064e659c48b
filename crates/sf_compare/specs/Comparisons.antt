-- What a comparison of two stacks finds, and its text.
use Rattle.std.specs.Prelude.{ℕ, ◌<◌, Bool, IsTrue, ◌↔◌, List, [], ◌∷◌, ◌++◌, Option, Some, None, codes}
use Rattle.sf_insn.specs.declared.input.Input.{Input}
use Rattle.sf_insn.specs.Inputs.{IsInput}
use Rattle.sf_check.specs.declared.insn.Insn.{Insn}
use Rattle.sf_run.specs.declared.action.Answer.{Answer}
use Rattle.sf_run.specs.Answers.{Answers}
use Rattle.sf_stack.specs.Texts.{answer_words, hex_text, line, nodes_line, filters_line}
use Rattle.sf_relations.specs.declared.relation.Relation.{Relation}
use Rattle.sf_relations.specs.declared.relation.Relation.TheVariants.{Looser, Tighter, Different, Pretended}
use Rattle.sf_relations.specs.declared.examples.Example.{Example}
use Rattle.sf_relations.specs.declared.findings.Findings.{Findings}
use Rattle.sf_relations.specs.Comparing.{AreFindingsBetween}
use Rattle.sf_relations.specs.Relations.{reach_of}

-- some call may get through a stack: to some input it gives an answer by which the call isn't refused
pub record LetsSomeThrough (programs : List (List Insn)) : Type 0 where
  pub input : Input
  pub answer : Answer
  pub is_input : IsInput input
  pub answered : Answers programs input answer
  pub reaches : 0 < reach_of answer.action

-- the two stacks, how many nodes their diagrams have, what is found of each relation, and whether some call may get
-- through each stack
pub record Compared : Type 0 where
  pub old : List (List Insn)
  pub new : List (List Insn)
  pub nodes : ℕ
  pub findings : Findings
  pub through_old : Bool
  pub through_new : Bool

-- all that is found of the two stacks is right
pub record IsComparison (c : Compared) : Type 0 where
  pub findings : AreFindingsBetween c.old c.new c.findings
  pub through_old : IsTrue c.through_old ↔ LetsSomeThrough c.old
  pub through_new : IsTrue c.through_new ↔ LetsSomeThrough c.new

-- what is found of a relation
abbrev pub finding_of : Findings → Relation → Option Example
finding_of f Looser = f.looser
finding_of f Tighter = f.tighter
finding_of f Different = f.different
finding_of f Pretended = f.pretended

-- what each comparison begins with, and the number of its form
abbrev pub comparison_title : List ℕ
comparison_title = line (codes "seccomp_audit" ∷ codes "compare" ∷ codes "2" ∷ [])

-- the size of one of the two stacks
abbrev pub part_line : List ℕ → List (List Insn) → List ℕ
part_line which programs = which ++ 32 ∷ filters_line programs

-- what is found of a relation, and the example with the answers of the old stack and of the new one
abbrev pub change_line : List ℕ → Option Example → List ℕ
change_line relation None = line (relation ∷ codes "never" ∷ [])
change_line relation (Some e) = line (relation ∷ codes "found" ∷ hex_text e.input ∷ answer_words e.before
    ∷ codes "->" ∷ answer_words e.after ∷ [])

-- the lines of the relations
abbrev pub changes_text : Findings → List ℕ
changes_text f = change_line (codes "looser") f.looser ++ (change_line (codes "tighter") f.tighter
    ++ change_line (codes "different") f.different)

-- the lines above those of the relations
abbrev pub comparison_head : Compared → List ℕ
comparison_head c = comparison_title
    ++ (part_line (codes "old") c.old ++ (part_line (codes "new") c.new ++ nodes_line c.nodes))

-- the whole text
abbrev pub comparison_text : Compared → List ℕ
comparison_text c = comparison_head c ++ changes_text c.findings
