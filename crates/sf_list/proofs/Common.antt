-- The names from elsewhere that the proofs of this crate cite, passed on from one place. Declares nothing.
pub use Rattle.std.proofs.Common.{List, ap, ap₂, sym, ℕ, ◌++◌, ◌==◌, ◌∙◌, ◌≡◌, ◌≢◌}
pub use Rattle.std.proofs.lemmas.Bool.{cond-false, cond-true, eq-eqb, ne_eqb}
pub use Rattle.std.specs.Prelude.{None, if◌then◌else◌}
pub use Rattle.sf_behaviour.specs.Answering.{answer_with}
pub use Rattle.sf_diagram.specs.Stores.{tree_at}
pub use Rattle.sf_diagram.specs.Trees.{Tree}
pub use Rattle.sf_list.specs.Listings.{Listed, digest_line, listing_text, listing_title, rows_total_line}
pub use Rattle.sf_names.specs.Names.{NamesData}
pub use Rattle.sf_relations.specs.laws.KeepLaws.{behaviour_kept}
pub use Rattle.sf_rows.specs.Lines.{lines_of_rows}
pub use Rattle.sf_rows.specs.Rows.{after_of, before_of, rows_of, tree_word}
pub use Rattle.sf_rows.specs.Shown.{ShownData}
pub use Rattle.sf_rows.specs.Trees.{is_named_call}
pub use Rattle.sf_rows.specs.laws.TreeLaws.{answers_tree}
pub use Rattle.sf_stack.specs.Texts.{filters_line}
