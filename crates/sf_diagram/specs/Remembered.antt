-- Results that a store remembers.
use Rattle.std.specs.Prelude.{ℕ, ◌<◌, ◌≤◌, List, length, All, Option, Some, None}
use Rattle.sf_diagram.specs.Trees.{Tree, HasValues}
use Rattle.sf_diagram.specs.Stores.{tree_at}
use Rattle.sf_diagram.specs.Nodes.{trees_of, IsStore}
use Rattle.sf_diagram.specs.Tasks.{AreBelow, wanted}
use Rattle.sf_diagram.specs.declared.index.Node.{Node}
use Rattle.sf_diagram.specs.declared.task.Task.{Task}

-- a task on nodes that are there, with the node of its tree
abbrev pub IsRemembered : List Tree → Option (Task × ℕ) → Type 0
IsRemembered ts None = Unit {0}
IsRemembered ts (Some p) =
    AreBelow (length ts) p.0 × (p.1 < length ts) × HasValues (tree_at ts p.1) (wanted ts p.0)

-- the nodes are those of a store, no more than are allowed, and each result that is remembered is right
pub record IsSound (ns : List Node) (most : ℕ) (cache : List (Option (Task × ℕ))) : Type 0 where
  pub store : IsStore ns
  pub few : length ns ≤ most
  pub remembered : All (IsRemembered (trees_of ns)) cache
