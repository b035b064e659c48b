-- What is to be made of trees: a choice between two by a third, or what an operation makes of two.
use Rattle.std.specs.Prelude.{◌≡◌, ℕ, suc, ◌+◌, ◌<◌, ◌≤◌, List, length, if◌then◌else◌}
use Rattle.sf_diagram.specs.Trees.{Tree, Leaf, Fork, Bits, value, HasValues, IsOrderedFrom}
use Rattle.sf_diagram.specs.Stores.{tree_at}
use Rattle.sf_diagram.specs.Choices.{chosen_value}
use Rattle.sf_diagram.specs.Merges.{merged_value}
use Rattle.sf_diagram.specs.declared.task.Step.{Step}
use Rattle.sf_diagram.specs.declared.task.Step.TheVariants.{Same, Constant, Divided}
use Rattle.sf_diagram.specs.declared.task.Task.{Task}
use Rattle.sf_diagram.specs.declared.task.Task.TheVariants.{Choose, Merge}

-- the variable of a fork; more than each variable for a leaf
abbrev pub top_variable : Tree → ℕ
top_variable (Leaf number) = 65536
top_variable (Fork variable lower higher) = variable

-- What a tree leads to where a variable is false, and where it is true. No variable of the tree is less.
pub record IsParted (variable : ℕ) (t lower higher : Tree) : Type 0 where
  pub values : (bits : Bits) → value t bits ≡ (if bits variable then value higher bits else value lower bits)
  pub ordered : IsOrderedFrom variable t
  pub lower_ordered : IsOrderedFrom (suc variable) lower
  pub higher_ordered : IsOrderedFrom (suc variable) higher

-- the nodes of a task stand at places below n
abbrev pub AreBelow : ℕ → Task → Type 0
AreBelow n (Choose test taken other) = (test < n) × (taken < n) × (other < n)
AreBelow n (Merge operation first second) = (first < n) × (second < n)

-- the sum of these places
abbrev pub weight : Task → ℕ
weight (Choose test taken other) = test + taken + other
weight (Merge operation first second) = first + second

-- the number that the tree of a task is to have on an input
abbrev pub wanted : List Tree → Task → Bits → ℕ
wanted ts (Choose test taken other) = chosen_value (tree_at ts test) (tree_at ts taken) (tree_at ts other)
wanted ts (Merge operation first second) = merged_value operation (tree_at ts first) (tree_at ts second)

-- inputs that agree from variable n on have one number
abbrev pub AreFrom : ℕ → (Bits → ℕ) → Type 0
AreFrom n f = (a b : Bits) → ((v : ℕ) → n ≤ v → a v ≡ b v) → f a ≡ f b

-- numbers on inputs, and what they are where a variable is false, and where it is true; no lesser variable matters
pub record AreDivided (variable : ℕ) (f lower higher : Bits → ℕ) : Type 0 where
  pub values : (bits : Bits) → f bits ≡ (if bits variable then higher bits else lower bits)
  pub from : AreFrom variable f
  pub lower_from : AreFrom (suc variable) lower
  pub higher_from : AreFrom (suc variable) higher

-- a task of nodes that are there, with a lesser sum than another task's
abbrev pub IsLesserTask : ℕ → Task → Task → Type 0
IsLesserTask n part task = AreBelow n part × (weight part < weight task)

-- what there is to do: nothing, since the tree is there; a leaf; or two lesser tasks, which a variable divides
abbrev pub IsStepFor : List Tree → Task → Step → Type 0
IsStepFor ts task (Same id) = (id < length ts) × HasValues (tree_at ts id) (wanted ts task)
IsStepFor ts task (Constant number) = (bits : Bits) → wanted ts task bits ≡ number
IsStepFor ts task (Divided variable lower higher) =
    IsLesserTask (length ts) lower task × IsLesserTask (length ts) higher task
    × AreDivided variable (wanted ts task) (wanted ts lower) (wanted ts higher)
