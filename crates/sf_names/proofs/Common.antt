-- The names from elsewhere that the proofs of this crate cite, passed on from one place. Declares nothing.
pub use Rattle.std.proofs.Common.{Bool, Err, Global, List, None, Ok, Option, Result, Some, String, [], ap, append_assoc, arith, codes, drop, false, get_or, if◌then◌else◌, inl, inr, length, nat_lt, not, refl, rules, slice_get, slice_set, string_bytes, subst, sym, take, true, ℕ, ◌&&◌, ◌++◌, ◌+◌, ◌<◌, ◌∙◌, ◌∷◌, ◌≡◌, ◌⊎◌}
pub use Rattle.std.proofs.lemmas.Bool.{false≢true}
pub use Rattle.std.proofs.lemmas.Fn.{always_returns_same, filter_same}
pub use Rattle.std.proofs.lemmas.Grind.{common_steps}
pub use Rattle.std.proofs.lemmas.List.{set-get_or}
pub use Rattle.std.proofs.lemmas.List.Sorted.{IsNonDecreasingBy-from_sort_by_key}
pub use Rattle.std.proofs.lemmas.Option.{slice_get-get_or}
pub use Rattle.std.proofs.lemmas.Result.{on_ok_weaker}
pub use Rattle.std.specs.List.{flat_map, list_all}
pub use Rattle.std.specs.Map.{keys_of}
pub use Rattle.std.specs.Prelude.{IfErr, OnOk, find}
pub use Rattle.std.specs.Vec.Iter.{into_iter_items}
pub use Rattle.sf_names.specs.Joined.{AreSetsJoined, IsSetJoined, is_there, joined_set, may_add, new_calls, with_calls_of}
pub use Rattle.sf_names.specs.Names.{AreByNumber, CallData, GivesNames, GivesSet, HaveOrderedCalls, IsOrdered, NamesData, arch_at, arch_where_word, call_cons, call_of_value, call_where_word, calls_at, calls_of, count_after, has_name, has_names_keys, has_set, is_call_name, is_names_key, key_count, list_of_one_set, name_between, names_in, names_words, set_cons, set_from, set_of_parts, set_of_value, sets_of_file, sets_of_table, with_usual_set, word_in}
pub use Rattle.sf_names.specs.declared.fault.Fault.{Fault}
pub use Rattle.sf_names.specs.laws.JoinedLaws.{joined_append}
pub use Rattle.sf_names.specs.laws.NamesLaws.{told_more, words_more}
pub use Rattle.toml.proofs.Views.{table_get}
pub use Rattle.toml.specs.Data.{Data, Members, get_member, integer, member, no_members, table}
pub use Rattle.toml.specs.View.{members_view, table_view}
pub use Rattle.toml.specs.declared.value.Value.{Value}
