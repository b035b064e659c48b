-- The nodes of a store, and the trees for which they stand.
use Rattle.std.specs.Prelude.{◌≡◌, ℕ, ◌<◌, List, [], ◌∷◌, ◌++◌, length, slice_index_or}
use Rattle.sf_diagram.specs.Trees.{Tree, Leaf, Fork}
use Rattle.sf_diagram.specs.Stores.{tree_at, AreCanonical}
use Rattle.sf_diagram.specs.declared.index.Node.{Node}
use Rattle.sf_diagram.specs.declared.index.Node.TheVariants.{Number, Choice}

-- the node at a place
abbrev pub stored_node : List Node → ℕ → Node
stored_node ns i = slice_index_or ns i (Number 0)

-- the operands of a node stand at places below n
abbrev pub OperandsBelow : ℕ → Node → Type 0
OperandsBelow n (Number number) = Unit {0}
OperandsBelow n (Choice variable lower higher) = (lower < n) × (higher < n)

-- the tree of a node, by the trees of the older nodes
abbrev pub tree_of : List Tree → Node → Tree
tree_of older (Number number) = Leaf number
tree_of older (Choice variable lower higher) = Fork variable (tree_at older lower) (tree_at older higher)

-- the older trees, and then those of ns
abbrev pub trees_after : List Tree → List Node → List Tree
trees_after older [] = older
trees_after older (n ∷ ns) = trees_after (older ++ tree_of older n ∷ []) ns

-- the tree of each node
abbrev pub trees_of : List Node → List Tree
trees_of ns = trees_after [] ns

-- the operands of each node are older, and the trees of the nodes are canonical
pub record IsStore (ns : List Node) : Type 0 where
  pub count : length (trees_of ns) ≡ length ns
  pub older : (i : ℕ) → i < length ns → OperandsBelow i (stored_node ns i)
  pub trees : (i : ℕ) → i < length ns → tree_at (trees_of ns) i ≡ tree_of (trees_of ns) (stored_node ns i)
  pub canonical : AreCanonical (trees_of ns)
