-- The names from elsewhere that the proofs of this crate cite, passed on from one place. Declares nothing.
pub use Rattle.std.proofs.Common.{Bool, Err, List, Option, [], ap, arith, false, get_or, inl, inr, length, refl, set, subst, suc, sym, take, true, ℕ, ◌++◌, ◌+◌, ◌<◌, ◌==◌, ◌∙◌, ◌∷◌, ◌≡◌, ◌≢◌, ◌≤◌, ◌⊎◌}
pub use Rattle.std.proofs.Math.Nat.{eq-or-lt_of_le}
pub use Rattle.std.proofs.Math.Path.{fun_ext}
pub use Rattle.std.proofs.lemmas.Bool.{cases_eq, cases_lt, cases_order, eq-eqb, ne_eqb, or_right}
pub use Rattle.std.proofs.lemmas.Grind.{common_steps}
pub use Rattle.std.proofs.lemmas.List.{get_or-set_other, get_or-set_same, get_or_append_left, get_or_push, length-map, length-set, length_push, map-append}
pub use Rattle.std.proofs.lemmas.List.Elements.{All-from_get_or, All-push, All-weaker}
pub use Rattle.std.proofs.lemmas.List.Folds.{list_any-append}
pub use Rattle.std.proofs.lemmas.Result.{err_from_is_err_and}
pub use Rattle.std.specs.Prelude.{All, if◌then◌else◌}
pub use Rattle.sf_diagram.specs.Choices.{chosen_of}
pub use Rattle.sf_diagram.specs.Index.{IsInBuckets, bucket_of, nodes_of}
pub use Rattle.sf_diagram.specs.LeastInputs.{IsLeastNonzero}
pub use Rattle.sf_diagram.specs.Nodes.{IsStore, OperandsBelow, stored_node, tree_of, trees_after, trees_of}
pub use Rattle.sf_diagram.specs.Operations.{merged_of}
pub use Rattle.sf_diagram.specs.Remembered.{IsRemembered, IsSound}
pub use Rattle.sf_diagram.specs.Stores.{AreCanonical, HasNoRoom, IsLawfulStore, IsSpentFor, KeepsTrees, Stands, StoreData, tree_at}
pub use Rattle.sf_diagram.specs.Tasks.{AreBelow, AreDivided, AreFrom, IsParted, top_variable, wanted, weight}
pub use Rattle.sf_diagram.specs.Trees.{Bits, Fork, HasValues, IsJoined, IsOrderedFrom, IsOrderedTree, IsReducedTree, Leaf, Tree, bits_with, value}
pub use Rattle.sf_diagram.specs.declared.index.Interned.{Interned}
pub use Rattle.sf_diagram.specs.declared.index.Node.{Node}
pub use Rattle.sf_diagram.specs.declared.index.Node.TheVariants.{Choice, Number}
pub use Rattle.sf_diagram.specs.declared.task.Task.{Task}
pub use Rattle.sf_diagram.specs.declared.task.Task.TheVariants.{Choose, Merge}
pub use Rattle.sf_diagram.specs.laws.KeepLaws.{keeps_more}
pub use Rattle.sf_diagram.specs.laws.TreeLaws.{value_from}
