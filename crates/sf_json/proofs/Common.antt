-- The names from elsewhere that the proofs of this crate cite, passed on from one place. Declares nothing.
pub use Rattle.std.proofs.Common.{BTreeMap, Global, List, String, [], false, rules, ℕ, ◌++◌, ◌∷◌, ◌≡◌}
pub use Rattle.std.proofs.lemmas.Bool.{or_parts}
pub use Rattle.std.specs.Cmp.Lexicographic.{slice_cmp}
pub use Rattle.std.specs.Ordering.{match_ordering, nat_cmp}
pub use Rattle.std.specs.declared.cmp.Ordering.{Ordering}
pub use Rattle.std.specs.declared.cmp.Ordering.TheVariants.{Equal, Greater, Less}
pub use Rattle.serde_json.specs.Data.{Data, Members, member, no_members, object, put}
pub use Rattle.serde_json.specs.View.{items_view, members_view, view}
pub use Rattle.serde_json.specs.Written.{has_float, items_have_float, members_have_float}
pub use Rattle.serde_json.specs.declared.value.Value.{Object, Value, the_lemmas}
