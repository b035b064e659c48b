-- The names from elsewhere that the proofs of this crate cite, passed on from one place. Declares nothing.
pub use Rattle.std.proofs.Common.{Bool, List, Some, [], ap, ap₂, arith, drop, drop-cons, false, get_or, inl, inr, length, lit<, lit≤, map, refl, subst, suc, sym, take, true, zero, ℕ, ◌%◌, ◌*◌, ◌++◌, ◌+◌, ◌-◌, ◌/◌, ◌<◌, ◌==◌, ◌^◌, ◌∙◌, ◌∷◌, ◌≡◌, ◌≢◌, ◌≤◌}
pub use Rattle.std.proofs.Math.Nat.{add-mod_right, mod-eq_of_lt, mod-one, zero-mod}
pub use Rattle.std.proofs.Math.Pow.{mod-mod-pow}
pub use Rattle.std.proofs.lemmas.Bool.{and_from, cases_Bool, cond-false, cond-true, cond_both, eq-eqb, eqb-false, eqb-true, ne_eqb}
pub use Rattle.std.proofs.lemmas.Bool.Decides.{nat_tests}
pub use Rattle.std.proofs.lemmas.Grind.{common_steps}
pub use Rattle.std.proofs.lemmas.List.{flat_map_more, get_or-map, length-append, length-map, reverse-append, take_more}
pub use Rattle.std.proofs.lemmas.List.Elements.{All-append, All-cons, All-map, All-nil, All-pop, All-push, All-tail, All-weaker}
pub use Rattle.std.proofs.lemmas.List.Folds.{length-flat_map-take, list_any-append}
pub use Rattle.std.proofs.lemmas.List.Recursion.{is_count_by}
pub use Rattle.std.proofs.lemmas.Nat.{and_le_r, and_mod, mod_below, mod_low, or_disjoint, or_lt, pow_below, pow_pos, shr_split}
pub use Rattle.std.proofs.lemmas.Nat.Bits.{and_pow, bit_at-lt, bit_at-pow_other, bit_at-pow_same, bit_at-zero, bit_at_above, bit_at_and, bit_at_cat_high, bit_at_cat_low, bit_at_ones, bit_at_or, same_from_bits}
pub use Rattle.std.proofs.lemmas.Result.{err_from_is_err_and}
pub use Rattle.std.specs.Int.{bit_at}
pub use Rattle.std.specs.Int.Bits.{and_zero_l, and_zero_r}
pub use Rattle.std.specs.List.{flat_map, list_all, list_any}
pub use Rattle.std.specs.Prelude.{All, bit_and, bit_or, if◌then◌else◌, nat_le, not, ◌&&◌, ◌||◌, ◌⊎◌}
pub use Rattle.sf_diagram.specs.Stores.{AreCanonical, tree_at}
pub use Rattle.sf_diagram.specs.Trees.{Bits, Fork, IsOrderedFrom, Leaf, Tree, value}
pub use Rattle.sf_parts.specs.Parts.{PartData, behinds_after, form_has, is_in_span, joined_parts, longest_of, part_in, parts_in, rest_in, span_part, spans_of, ways_from, with_bit}
pub use Rattle.sf_parts.specs.Rows.{ConditionData, IsCrowded, RowData, is_in_row, meets}
unfoldable pub use Rattle.sf_parts.specs.Rows.{rows_under}
pub use Rattle.sf_parts.specs.Runs.{RunData, mask_in, runs_in, with_run}
unfoldable pub use Rattle.sf_parts.specs.Runs.{runs_before}
pub use Rattle.sf_parts.specs.Stored.{StoredPart, part_seen, run_seen, runs_seen}
pub use Rattle.sf_parts.specs.Words.{EndsBefore, behind, higher_at, is_in, is_same_tree, lower_at, test_count, tested, word_number}
unfoldable pub use Rattle.sf_parts.specs.Words.{low_number}
pub use Rattle.sf_parts.specs.declared.form.Span.{Span}
pub use Rattle.sf_parts.specs.declared.rows.TheConstants.{ROWS}
pub use Rattle.sf_parts.specs.declared.runs.Run.{Run}
pub use Rattle.sf_parts.specs.declared.word.TheConstants.{TESTS}
pub use Rattle.sf_parts.specs.laws.WordLaws.{behind-below, behind-ordered, crowded_behind, double, low-more, low-small, ordered-weaker}
