-- The names from elsewhere that the specs of this crate use, passed on from one place. Declares nothing.
pub use Rattle.sf_behaviour.specs.Answering.{IsBehaviour, answer_with}
pub use Rattle.sf_behaviour.specs.InputBits.{input_bits, input_by}
pub use Rattle.sf_check.specs.declared.insn.Insn.{Insn}
pub use Rattle.sf_diagram.specs.Operations.{merged_of, reach_by}
pub use Rattle.sf_diagram.specs.Stores.{KeepsTrees, tree_at}
pub use Rattle.sf_diagram.specs.Trees.{Bits, Tree, value}
pub use Rattle.sf_diagram.specs.declared.operation.Operation.{Operation}
pub use Rattle.sf_insn.specs.Inputs.{IsInput}
pub use Rattle.sf_insn.specs.declared.input.Input.{Input}
pub use Rattle.sf_relations.specs.declared.examples.Example.{Example}
pub use Rattle.sf_relations.specs.declared.findings.Findings.{Findings}
pub use Rattle.sf_relations.specs.declared.needs.Needs.{Needs}
pub use Rattle.sf_relations.specs.declared.relation.Relation.{Relation}
pub use Rattle.sf_relations.specs.declared.relation.Relation.TheVariants.{Different, Looser, Pretended, Tighter}
pub use Rattle.sf_run.specs.Answers.{Answers, action_bits, action_number, action_of, data_bits}
pub use Rattle.sf_run.specs.declared.action.Action.{Action}
pub use Rattle.sf_run.specs.declared.action.Action.TheVariants.{Errno}
pub use Rattle.sf_run.specs.declared.action.Answer.{Answer}
