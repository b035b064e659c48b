-- A stack's behaviour in a store is the tree of its answers.
use Rattle.std.specs.Prelude.{ℕ, List}
use Rattle.sf_rows.specs.Common.{Insn, Tree, AreCanonical, tree_at, IsBehaviour}
use Rattle.sf_rows.specs.Trees.{IsAnswersTree}

pub answers_tree : (programs : List (List Insn)) (ts : List Tree) (id : ℕ) → AreCanonical ts
    → IsBehaviour programs ts id → IsAnswersTree programs (tree_at ts id)
answers_tree programs ts id canonical is = record {
  ordered = canonical.ordered id is.within;
  reduced = canonical.reduced id is.within;
  small = is.small;
  answers = is.answers;
}
