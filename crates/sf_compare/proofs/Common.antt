-- The names from elsewhere that the proofs of this crate cite, passed on from one place. Declares nothing.
pub use Rattle.std.proofs.Common.{Bool, List, None, Option, Some, [], ap, arith, false, inl, inr, length, refl, subst, sym, true, ℕ, ◌++◌, ◌<◌, ◌↔◌, ◌∷◌, ◌≡◌, ◌≢◌, ◌≤◌, ◌⊎◌}
pub use Rattle.std.proofs.lemmas.Bool.{cases_eq, cases_lt, ne_eqb}
pub use Rattle.std.proofs.lemmas.Bool.Decides.{nat_tests, same_from_decides}
pub use Rattle.std.proofs.lemmas.List.{append-nil, append_assoc}
pub use Rattle.std.proofs.lemmas.Result.{on_ok_weaker}
pub use Rattle.std.specs.Prelude.{IsTrue, codes, if◌then◌else◌, is_some, ◌==◌}
pub use Rattle.sf_behaviour.specs.Answering.{IsBehaviour}
pub use Rattle.sf_behaviour.specs.InputBits.{input_by}
pub use Rattle.sf_check.specs.declared.insn.Insn.{Insn}
pub use Rattle.sf_check.specs.declared.insn.Insn.TheVariants.{ReturnConstant}
pub use Rattle.sf_compare.specs.Comparisons.{Compared, IsComparison, LetsSomeThrough}
pub use Rattle.sf_compare.specs.Upward.{IsUpward}
pub use Rattle.sf_diagram.specs.Operations.{reach_by}
pub use Rattle.sf_diagram.specs.Stores.{StoreData, tree_at}
pub use Rattle.sf_diagram.specs.Trees.{Bits, Leaf, Tree, value}
pub use Rattle.sf_diagram.specs.laws.KeepLaws.{keeps_more}
pub use Rattle.sf_insn.specs.Inputs.{IsInput}
pub use Rattle.sf_insn.specs.declared.input.Input.{Input}
pub use Rattle.sf_policy.specs.Actions.{actions_of}
pub use Rattle.sf_question.specs.Actions.{has_action}
pub use Rattle.sf_question.specs.Breaking.{Breaks}
pub use Rattle.sf_question.specs.QuestionData.{QuestionData}
pub use Rattle.sf_question.specs.declared.actions.ActionSet.{ActionSet}
pub use Rattle.sf_relations.specs.Changes.{IsFinding}
pub use Rattle.sf_relations.specs.Comparing.{AreFindingsBetween}
pub use Rattle.sf_relations.specs.Relations.{reach_of}
pub use Rattle.sf_relations.specs.declared.examples.Example.{Example}
pub use Rattle.sf_relations.specs.declared.findings.Findings.{Findings}
pub use Rattle.sf_relations.specs.declared.relation.Relation.{Relation}
pub use Rattle.sf_relations.specs.declared.relation.Relation.TheVariants.{Different, Looser, Pretended, Tighter}
pub use Rattle.sf_relations.specs.laws.KeepLaws.{behaviour_kept}
pub use Rattle.sf_run.specs.Answers.{Answers, IsAnswer, action_number, action_of, folded_answer}
pub use Rattle.sf_run.specs.Machine.{returns_of}
unfoldable pub use Rattle.sf_run.specs.Machine.{outcome_of, run_for}
pub use Rattle.sf_run.specs.declared.action.Action.{Action}
pub use Rattle.sf_run.specs.declared.action.Action.TheVariants.{Allow, Errno, KillProcess, KillThread, Log, Other, Trace, Trap, UserNotif}
pub use Rattle.sf_run.specs.declared.action.Answer.{Answer}
pub use Rattle.sf_run.specs.laws.AnswerLaws.{answer_more, answer_none}
pub use Rattle.sf_stack.specs.laws.TextLaws.{added_four}
