-- The names from elsewhere that the proofs of this crate cite, passed on from one place. Declares nothing.
pub use Rattle.std.proofs.Common.{Bool, List, None, Option, Some, [], ap, ap₂, arith, false, get_or, inl, inr, length, length-append, length-set, map, not, refl, replicate, rules, subst, suc, sym, take, true, zero, ℕ, ◌%◌, ◌*◌, ◌++◌, ◌+◌, ◌-◌, ◌/◌, ◌<◌, ◌==◌, ◌^◌, ◌∙◌, ◌∷◌, ◌≡◌, ◌≢◌, ◌≤◌, ◌⊎◌}
pub use Rattle.std.proofs.Math.Nat.{add-mod, div-div-eq-div-mul, div-le_self, div-lt_iff_lt-mul, le-div_iff_mul-le, mod-eq_of_lt, mod-mod, mul-pos, pow-le-pow_right, pow-suc}
pub use Rattle.std.proofs.lemmas.Bool.{cases_eq, cases_lt, le-ltb, leb-false, leb-true, lt-ltb}
pub use Rattle.std.proofs.lemmas.Bool.Decides.{nat_tests}
pub use Rattle.std.proofs.lemmas.Grind.{common_steps}
pub use Rattle.std.proofs.lemmas.List.{ext_get_or, get_or-replicate, get_or-set_other, get_or-set_same, get_or_default, get_or_past, length-map, length-replicate, map-append, map_push, set-get_or, take_more}
pub use Rattle.std.proofs.lemmas.Nat.{and_le_l, and_mask, and_mod, and_shr, div-add-mod', div-mul-add, mod-pow-add, mod_below, mul-mod_first, or_lt, or_mod, or_shr, pow-add, pow_pos, shr-shr, shr_le, xor_lt, xor_mod, xor_shr}
pub use Rattle.std.proofs.lemmas.Nat.Bits.{and_high_mask, bit_at-lt, bit_at-suc, bit_at-zero, bit_at_above, bit_at_cat_high, bit_at_cat_low, bit_at_lowest, same_from_bits_below}
pub use Rattle.std.proofs.lemmas.Option.{get_or_from_slice_get, same_Some, slice_get-get_or, slice_get_within, unwrap_or-slice_get}
pub use Rattle.std.specs.BTreeMap.{BTreeMap, Updates, is_at}
pub use Rattle.std.specs.Int.Bits.{and_block}
pub use Rattle.std.specs.Prelude.{Contains, IsSome, bit_and, if◌then◌else◌, nat_le, nat_lt, slice_get, slice_index, slice_index_or, slice_set, unwrap_or, ◌&&◌}
pub use Rattle.sf_behaviour.specs.Common.{And, Answer, AnyBit, Bitwise, Choose, Direction, Effect, Equal, Input, Insn, IsInput, Left, Operand, Or, Right, Sets, Source, Step, Test, Tests, Word, Xor, apply, bit_at, nat_cmp, passes, successors}
pub use Rattle.sf_behaviour.specs.Answering.{HasAnswers, IsBehaviour, answer_with}
pub use Rattle.sf_behaviour.specs.Combining.{IsBitwise, IsDigit, combined, moved, shifted_by, tested_bits}
pub use Rattle.sf_behaviour.specs.Effects.{IsEffectOf, divides, effect_progress, operand_in, places_after, return_progress, set_progress, source_in, source_number, unmet}
pub use Rattle.sf_behaviour.specs.InputBits.{input_by, number_by}
pub use Rattle.sf_behaviour.specs.Knowledge.{Fits, IsInputWord, IsKnowledge, IsLess, Known, held_in, known_word}
pub use Rattle.sf_behaviour.specs.Registers.{A, IsRegister, X, next_with, register_bit, register_by, register_first, register_number, registers_of, with_register}
pub use Rattle.sf_behaviour.specs.Replacing.{AreReplaced, IsReplaced}
pub use Rattle.sf_behaviour.specs.Telling.{AreKnown, AreSteps, IsAfter, IsCarried, IsMet, IsNext, IsPlace, IsSetTo, IsStep, TellFrom, Tells, insns_of, known_of}
pub use Rattle.sf_behaviour.specs.Words.{IsDiagramOf, IsTruth, IsTruthOf, IsWord, IsWordOf, word_value}
pub use Rattle.sf_behaviour.specs.laws.InputLaws.{if-small, input-back, input-is, input-word, input_by-same, number_by-bit, number_by-is, number_by-same, number_by-small, top-bit}
pub use Rattle.sf_check.specs.Programs.{IsAt, IsLawfulProgram}
pub use Rattle.sf_check.specs.declared.insn.Operand.TheVariants.{Constant}
pub use Rattle.sf_check.specs.laws.ContainsLaws.{contains_cons, contains_here, contains_nil, contains_there}
pub use Rattle.sf_check.specs.laws.ProgramLaws.{below_in, only_one, successors_inside}
pub use Rattle.sf_diagram.specs.Choices.{IsChosen, chosen_of}
pub use Rattle.sf_diagram.specs.Merges.{IsMerged}
pub use Rattle.sf_diagram.specs.Operations.{folded_of}
pub use Rattle.sf_diagram.specs.Stores.{KeepsStore, KeepsTrees, tree_at}
pub use Rattle.sf_diagram.specs.Trees.{Bits, Fork, IsOrderedFrom, IsOrderedTree, Leaf, Tree, value}
pub use Rattle.sf_diagram.specs.declared.operation.Operation.TheVariants.{Fold}
pub use Rattle.sf_diagram.specs.laws.KeepLaws.{keeps_both, keeps_more}
pub use Rattle.sf_diagram.specs.laws.TreeLaws.{value_from}
pub use Rattle.sf_insn.specs.declared.ops.BinOp.TheVariants.{Add, Mul, Sub}
pub use Rattle.sf_run.specs.Answers.{Answers, action_bits, action_number, data_bits, folded_answer, rank}
pub use Rattle.sf_run.specs.Machine.{Outcome, Progress, State, goes, insn_progress, load_progress, operand_of, outcome_from, return_of, returns, returns_of, start, stuck}
unfoldable pub use Rattle.sf_run.specs.Machine.{run_for}
pub use Rattle.sf_run.specs.Reachable.{put}
pub use Rattle.sf_run.specs.laws.AnswerLaws.{answer_more, number-action_of, one}
pub use Rattle.sf_run.specs.laws.RunLaws.{ends_from, option_map_some, safe_start, step_is, value_is}
