-- A store of trees, and what a call may do to it.
use Rattle.std.specs.Prelude.{◌≡◌, ◌≢◌, ℕ, ◌<◌, ◌≤◌, List, [], length, slice_index_or, refl}
use Rattle.std.specs.Coded.{Coded, code_by, coded×, coded_list, coded_ℕ}
use Rattle.sf_diagram.specs.Trees.{Tree, Leaf, Fork, Bits, value, IsOrderedTree, IsReducedTree}
use Rattle.sf_diagram.specs.TreeCode.{tree_code}

-- the trees by their ids, and how many there may be: each tree is one node of the store
pub record StoreData : Type 0 where
  pub trees : List Tree
  pub most : ℕ

-- a store is told from another by its trees and that number
abbrev pub store_code : Coded StoreData
store_code =
    code_by (List Tree × ℕ) (coded× (coded_list tree_code) coded_ℕ) (λ s. (s.trees, s.most))
    (λ p. record { trees = p.0; most = p.1 }) (λ _. refl)

-- a store without trees
abbrev pub empty_store : ℕ → StoreData
empty_store most = record { trees = []; most = most }

-- the tree for which an id stands
abbrev pub tree_at : List Tree → ℕ → Tree
tree_at ts id = slice_index_or ts id (Leaf 0)

-- each tree is ordered and reduced, and none stands twice
pub record AreCanonical (ts : List Tree) : Type 0 where
  pub ordered : (i : ℕ) → i < length ts → IsOrderedTree (tree_at ts i)
  pub reduced : (i : ℕ) → i < length ts → IsReducedTree (tree_at ts i)
  pub once : (i j : ℕ) → i < length ts → j < length ts → tree_at ts i ≡ tree_at ts j → i ≡ j

-- the tree stands in the store, under some id
abbrev pub Stands : StoreData → Tree → Type 0
Stands s t = (id : ℕ) × (id < length s.trees) × (tree_at s.trees id ≡ t)

-- the trees are canonical, with each fork both of its sides stand there, and there are no more than are allowed
pub record IsLawfulStore (s : StoreData) : Type 0 where
  pub canonical : AreCanonical s.trees
  pub closed : (variable : ℕ) (lower higher : Tree) → Stands s (Fork variable lower higher)
      → Stands s lower × Stands s higher
  pub few : length s.trees ≤ s.most

-- each id that was there stands for the same tree
pub record KeepsTrees (old new : List Tree) : Type 0 where
  pub longer : length old ≤ length new
  pub same : (id : ℕ) → id < length old → tree_at new id ≡ tree_at old id

-- a store has no fewer trees than before, and may have as many as before
pub record KeepsStore (old new : StoreData) : Type 0 where
  pub trees : KeepsTrees old.trees new.trees
  pub most : new.most ≡ old.most

-- the store has as many nodes as are allowed
abbrev pub IsFull : StoreData → Type 0
IsFull s = s.most ≤ length s.trees

-- the store has no node for the tree, and a new one would be one more than are allowed
pub record HasNoRoom (s : StoreData) (t : Tree) : Type 0 where
  pub full : IsFull s
  pub absent : (id : ℕ) → id < length s.trees → tree_at s.trees id ≢ t

-- the store has as many nodes as are allowed, and none of them is for a tree with these values
pub record IsSpentFor (s : StoreData) (f : Bits → ℕ) : Type 0 where
  pub full : IsFull s
  pub absent : (id : ℕ) → id < length s.trees → ((bits : Bits) → value (tree_at s.trees id) bits ≡ f bits) → ⊥
