-- The names from elsewhere that the specs of this crate use, passed on from one place. Declares nothing.
pub use Rattle.std.specs.Fmt.{decimal, digits, format_spec, padded_integral}
pub use Rattle.std.specs.List.{flat_map}
pub use Rattle.std.specs.Option.{option_map_or}
pub use Rattle.serde_json.specs.Data.{Data, boolean, null, string}
pub use Rattle.sf_calls.specs.Texts.{call_words, is_named}
pub use Rattle.sf_check.specs.Stacks.{path_length}
pub use Rattle.sf_check.specs.declared.insn.Insn.{Insn}
pub use Rattle.sf_check.specs.declared.insn.Insn.TheVariants.{Alu, Branch, Jump, LoadConstant, LoadLength, LoadScratch, LoadWord, LoadXConstant, LoadXLength, LoadXScratch, Negate, ReturnA, ReturnConstant, StoreA, StoreX, Tax, Txa}
pub use Rattle.sf_check.specs.declared.insn.Operand.{Operand}
pub use Rattle.sf_check.specs.declared.insn.Operand.TheVariants.{Constant, X}
pub use Rattle.sf_insn.specs.declared.input.Input.{Input}
pub use Rattle.sf_insn.specs.declared.ops.BinOp.{BinOp}
pub use Rattle.sf_insn.specs.declared.ops.BinOp.TheVariants.{Add, And, Div, Lsh, Mul, Or, Rsh, Sub, Xor}
pub use Rattle.sf_insn.specs.declared.ops.Test.{Test}
pub use Rattle.sf_insn.specs.declared.ops.Test.TheVariants.{AnyBit, Equal, Greater, GreaterOrEqual}
pub use Rattle.sf_json.specs.Documents.{action_document, answer_document, count, fields, input_document, list_of, word}
pub use Rattle.sf_names.specs.Names.{NamesData, names_between, names_words}
pub use Rattle.sf_policy.specs.Keys.{word_keys}
pub use Rattle.sf_run.specs.Answers.{Answers, action_bits, action_number, action_of, data_bits}
pub use Rattle.sf_run.specs.Walks.{CourseData, walk_of}
pub use Rattle.sf_run.specs.declared.action.Answer.{Answer}
pub use Rattle.sf_run.specs.declared.walking.Meeting.{Meeting}
pub use Rattle.sf_run.specs.declared.walking.Met.{Met}
pub use Rattle.sf_run.specs.declared.walking.Met.TheVariants.{Divided, Returned, Tested}
pub use Rattle.sf_stack.specs.Reaching.{AreReached}
pub use Rattle.sf_stack.specs.Texts.{action_text, line}
pub use Rattle.sf_trace.specs.declared.step.Step.{Step}
