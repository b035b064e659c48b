-- The names from elsewhere that the proofs of this crate cite, passed on from one place. Declares nothing.
pub use Rattle.std.proofs.Common.{List, [], ap, append_assoc, arith, drop, false, get_or, inl, inr, length, length-append, length-drop, map, min, refl, suc, sym, true, zero, ℕ, ◌%◌, ◌*◌, ◌++◌, ◌+◌, ◌/◌, ◌<◌, ◌∙◌, ◌∷◌, ◌≡◌, ◌≤◌, ◌⊎◌}
pub use Rattle.std.proofs.Math.ListN.{drop_of_length-le}
pub use Rattle.std.proofs.lemmas.Bool.{cases_lt}
pub use Rattle.std.proofs.lemmas.Bool.Decides.{nat_tests}
pub use Rattle.std.proofs.lemmas.Grind.{common_steps}
pub use Rattle.std.proofs.lemmas.List.{drop_more, get_or-append_right, get_or_append_left, get_or_read}
pub use Rattle.std.proofs.lemmas.List.Elements.{All-map, All-push}
pub use Rattle.std.specs.Arc.{arc_slice_items, arc_value}
pub use Rattle.std.specs.Cmp.Lexicographic.{slice_cmp}
pub use Rattle.std.specs.Ordering.{is_ne, nat_cmp, ordering_then}
pub use Rattle.std.specs.declared.cmp.Ordering.{Ordering}
pub use Rattle.std.specs.declared.cmp.Ordering.TheVariants.{Equal, Greater, Less}
pub use Rattle.sf_blocks.specs.Blocks.{AreWideBy, joined_by}
pub use Rattle.sf_blocks.specs.laws.BlockLaws.{AreWide-same, first-wide, joined-at, joined-push, joined-same, length-joined, rest-wide}
