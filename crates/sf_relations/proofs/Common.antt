-- The names from elsewhere that the proofs of this crate cite, passed on from one place. Declares nothing.
pub use Rattle.std.proofs.Common.{Bool, List, None, Option, Some, [], ap, arith, below_more, drop, false, get_or, inl, inr, length, map, refl, subst, suc, sym, take, true, zero, ℕ, ◌%◌, ◌*◌, ◌++◌, ◌+◌, ◌-◌, ◌/◌, ◌<◌, ◌==◌, ◌^◌, ◌∙◌, ◌∷◌, ◌≡◌, ◌≤◌, ◌⊎◌}
pub use Rattle.std.proofs.Math.Nat.{pow-le-pow_right, pow-suc}
pub use Rattle.std.proofs.lemmas.Bool.{agree_below_at, cases_eq, cases_lt, eqb-true, le-ltb, lt-ltb, ltb-true}
pub use Rattle.std.proofs.lemmas.Bool.Decides.{nat_tests}
pub use Rattle.std.proofs.lemmas.Grind.{common_steps}
pub use Rattle.std.proofs.lemmas.List.{append-nil, append_assoc, drop_all, drop_more, get_or_append_left, get_or_push, length_push, map-append, map_push, reverse-append, take_more}
pub use Rattle.std.proofs.lemmas.List.Elements.{All-head, All-push, All-weaker}
pub use Rattle.std.proofs.lemmas.List.FromFn.{fill_by_all}
pub use Rattle.std.specs.List.{range_with_len}
pub use Rattle.std.specs.Prelude.{All, if◌then◌else◌, nat_lt, remove, slice_index, slice_index_or}
pub use Rattle.sf_relations.specs.Common.{Answer, Example, Input, Insn, IsBehaviour, IsInput, Looser, Relation, answer_with}
pub use Rattle.sf_behaviour.specs.InputBits.{input_bits, input_by, input_number, places_of_words, words_in_order}
unfoldable pub use Rattle.sf_behaviour.specs.InputBits.{number_by}
pub use Rattle.sf_behaviour.specs.laws.InputLaws.{input-back, input-is, input-word, input_by-same, number_by-bit, number_by-small}
pub use Rattle.sf_diagram.specs.LeastInputs.{IsEarlierInput, IsLeastNonzero}
pub use Rattle.sf_diagram.specs.Merges.{IsMerged}
pub use Rattle.sf_diagram.specs.Operations.{folded_of}
pub use Rattle.sf_diagram.specs.Stores.{KeepsStore, KeepsTrees, tree_at}
pub use Rattle.sf_diagram.specs.Trees.{Bits, Tree, bits_with, value}
pub use Rattle.sf_diagram.specs.declared.operation.Operation.TheVariants.{Fold}
pub use Rattle.sf_diagram.specs.laws.KeepLaws.{keeps_more}
pub use Rattle.sf_relations.specs.Changes.{IsChange, IsFinding, IsLeastChange, IsUnchanged}
pub use Rattle.sf_relations.specs.Needs.{AnswerTheSame, AreKeptUpTo, IsKeptOrDropped, drops, filters_at, keeps, left_without}
pub use Rattle.sf_relations.specs.Numbers.{IsExampleAt, operation_of}
pub use Rattle.sf_relations.specs.Order.{ComesBefore, bit_in_order}
pub use Rattle.sf_relations.specs.Parts.{AreParts}
pub use Rattle.sf_relations.specs.laws.KeepLaws.{behaviour_kept, value_kept}
pub use Rattle.sf_relations.specs.laws.NumberLaws.{not-0-related, related-not-0}
pub use Rattle.sf_run.specs.Answers.{Answers, IsAnswer, action_bits, action_number, folded_answer, rank}
pub use Rattle.sf_run.specs.Machine.{returns_of}
pub use Rattle.sf_run.specs.declared.action.Action.TheVariants.{Allow}
pub use Rattle.sf_run.specs.laws.AnswerLaws.{answer_more, answer_none, number-action_of, one}
