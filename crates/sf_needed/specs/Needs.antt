-- Which filters of a stack are needed, and which are kept.
use Rattle.std.specs.Prelude.{ℕ, List, Option, length}
use Rattle.sf_check.specs.declared.insn.Insn.{Insn}
use Rattle.sf_relations.specs.declared.examples.Example.{Example}
use Rattle.sf_relations.specs.Needs.{AreFoundWithout, AreKeptUpTo}

-- the stack, how many nodes its diagrams have, what was found of each filter, and the places of those that are kept
pub record NeedsData : Type 0 where
  pub stack : List (List Insn)
  pub nodes : ℕ
  pub findings : List (Option Example)
  pub kept : List ℕ

-- all that was found of the stack is right
pub record AreNeeds (n : NeedsData) : Type 0 where
  pub findings : AreFoundWithout n.stack n.findings
  pub kept : AreKeptUpTo n.stack (length n.stack) n.kept
