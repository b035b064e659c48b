-- The names from elsewhere that the proofs of this crate cite, passed on from one place. Declares nothing.
pub use Rattle.std.proofs.Common.{List, None, Option, ap, arith, drop, length, map, string_bytes, sym, take, ℕ, ◌++◌, ◌+◌, ◌∙◌, ◌∷◌, ◌≡◌}
pub use Rattle.std.proofs.lemmas.List.{ext_get_or}
pub use Rattle.std.proofs.lemmas.Result.{on_ok_weaker}
pub use Rattle.std.specs.Fmt.{decimal}
pub use Rattle.std.specs.Prelude.{flat_map, remove, slice_index_or}
pub use Rattle.serde_json.specs.View.{view}
pub use Rattle.sf_check.specs.declared.insn.Insn.{Insn}
pub use Rattle.sf_diagram.specs.Stores.{StoreData}
pub use Rattle.sf_json.specs.Documents.{count}
pub use Rattle.sf_needed.specs.Documents.{finding_documents}
pub use Rattle.sf_needed.specs.Needs.{AreNeeds, NeedsData}
pub use Rattle.sf_needed.specs.Texts.{finding_lines}
pub use Rattle.sf_relations.specs.Changes.{IsFinding}
pub use Rattle.sf_relations.specs.Needs.{AreFoundWithout, AreKeptUpTo}
pub use Rattle.sf_relations.specs.declared.examples.Example.{Example}
pub use Rattle.sf_relations.specs.declared.relation.Relation.{Relation}
pub use Rattle.sf_relations.specs.declared.relation.Relation.TheVariants.{Looser}
pub use Rattle.sf_stack.specs.laws.TextLaws.{added_three}
