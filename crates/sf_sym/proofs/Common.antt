-- The names from elsewhere that the proofs of this crate cite, passed on from one place. Declares nothing.
pub use Rattle.std.proofs.Common.{List, None, Option, Some, [], ap, arith, below_more, get_or, length, refl, replicate, set, suc, sym, take, ℕ, ◌++◌, ◌+◌, ◌-◌, ◌<◌, ◌^◌, ◌∙◌, ◌∷◌, ◌≡◌, ◌≢◌, ◌≤◌}
pub use Rattle.std.proofs.Math.Nat.{eq-or-lt_of_le}
pub use Rattle.std.proofs.lemmas.Bool.{cases_order}
pub use Rattle.std.proofs.lemmas.Grind.{common_steps}
pub use Rattle.std.proofs.lemmas.List.{get_or-map, get_or-replicate, get_or-set_other, get_or-set_same, get_or_append_left, get_or_push, length-map, length-replicate, length-set, length_push, map-append}
pub use Rattle.std.proofs.lemmas.Nat.{and_comm, or_comm, xor_comm}
pub use Rattle.std.specs.Arc.{arc_value}
pub use Rattle.sf_sym.specs.Common.{And, Bin, BinOp, Const, Input, Interned, Neg, Node, NodeId, Or, Word, Xor, apply, negation_of}
pub use Rattle.sf_sym.specs.Index.{IsIndexed, IsLastWithHash, hash_of, link_at, nodes_of}
pub use Rattle.sf_sym.specs.Operands.{IsSwappable}
pub use Rattle.sf_sym.specs.Pool.{AreOrdered, HasNoTwins, IsPool, OperandsBelow, combined_node, constant_number, folded_node, negated_node, node_at, node_value, value_of, values_of}
pub use Rattle.sf_sym.specs.laws.SizeLaws.{apply-small}
pub use Rattle.sf_sym.specs.laws.ValueLaws.{AreOrdered-push, ArePlainNodes-push, IsPool-push, OperandsBelow-at, constant_number-is, length-values_of, twins-push, value-constant, value-last, value-node, value-older, value-pushed, value-take, values_of-more}
