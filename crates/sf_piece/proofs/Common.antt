-- The names from elsewhere that the proofs of this crate cite, passed on from one place. Declares nothing.
pub use Rattle.std.proofs.Common.{Bool, List, None, Some, [], ap, append-nil, append_assoc, arith, drop, false, get_or, inl, inr, length, length-append, length-drop, map, not, refl, replicate, reverse, slice_get, subst, suc, sym, take, true, zero, ℕ, ◌%◌, ◌&&◌, ◌*◌, ◌++◌, ◌+◌, ◌-◌, ◌/◌, ◌<◌, ◌^◌, ◌∙◌, ◌∷◌, ◌≡◌, ◌≢◌, ◌≤◌, ◌⊎◌}
pub use Rattle.std.proofs.Math.Nat.{one-le-pow, pow-le-pow_right}
pub use Rattle.std.proofs.lemmas.Bool.{and_from, and_parts, cases_eq, cases_lt, eq-eqb, eqb-true, false_from_ne_true, false≢true, ne_eqb}
pub use Rattle.std.proofs.lemmas.Bool.Decides.{nat_tests}
pub use Rattle.std.proofs.lemmas.Grind.{common_steps}
pub use Rattle.std.proofs.lemmas.List.{ext_get_or, get_or-reverse, get_or_append_left, get_or_default, get_or_push, length-map, length-replicate, length-reverse, length_push, replicate-append-replicate, take_all, take_more}
pub use Rattle.std.proofs.lemmas.List.Elements.{All-drop, All-from_recursion, All-head, All-nil, All-push, recursion_from_All}
pub use Rattle.std.proofs.lemmas.List.Folds.{list_all-append}
pub use Rattle.std.proofs.lemmas.Nat.{mod-pow-add}
pub use Rattle.std.proofs.lemmas.Nat.Bits.{and_pow}
pub use Rattle.std.proofs.lemmas.Option.{get_or_from_slice_get, same_Some, slice_get-get_or, slice_get-map, slice_get_within}
pub use Rattle.std.proofs.lemmas.Result.{IfOk-weaker}
pub use Rattle.std.specs.Cmp.Lexicographic.{slice_cmp}
pub use Rattle.std.specs.Ordering.{bool_cmp, nat_cmp, ordering_then}
pub use Rattle.std.specs.Prelude.{All, Contains, IfSome, IsSome, MatchOption, Option, bit_and, if◌then◌else◌, option_map, slice_set, ◌==◌}
pub use Rattle.std.specs.declared.cmp.Ordering.{Ordering}
pub use Rattle.std.specs.declared.cmp.Ordering.TheVariants.{Less}
pub use Rattle.sf_piece.specs.Common.{A, AllByRecursion, Alu, Answer, AnyBit, Bin, BinOp, Branch, CantLearn, Cond, Const, Constant, Div, Equal, GrowsBy, Input, Insn, IsAnswer, IsForcedBy, IsInput, IsPropagatedBack, Known, LearnsBy, Load, LoadConstant, LoadLength, LoadScratch, LoadWord, LoadXConstant, LoadXLength, LoadXScratch, Meets, Neg, Negate, Node, NodeId, Operand, Register, ReturnA, ReturnConstant, Reverse, StartsBy, StoreA, StoreX, SymbolicMachine, Test, Word, X, apply, flat_map, list_all, passes}
pub use Rattle.sf_check.specs.EqualTests.{AreSkipped}
pub use Rattle.sf_check.specs.Insns.{stored_by, successors}
pub use Rattle.sf_check.specs.Programs.{IsAt, IsLawfulProgram, Stores}
pub use Rattle.sf_check.specs.Stacks.{IsLawfulStack, IsPlain, IsPlainInsn}
pub use Rattle.sf_check.specs.laws.ContainsLaws.{any_cons, contains_here, contains_there}
pub use Rattle.sf_check.specs.laws.ProgramLaws.{below_in, successors_inside}
pub use Rattle.sf_dom.specs.Facts.{Covers, FactsView, IsPlainCondition, IsPlainTest, IsWordOrConst, KeepsOnly, TakesIn, known_at}
unfoldable pub use Rattle.sf_dom.specs.Facts.{Agrees}
pub use Rattle.sf_dom.specs.Known.{Admits, IsConsistent, IsDecided}
pub use Rattle.sf_dom.specs.Rules.{IsClosed, IsClosedAt, Then, number_known}
unfoldable pub use Rattle.sf_dom.specs.Rules.{assumed}
pub use Rattle.sf_dom.specs.SoundRules.{AreCarried, ForcedIsLearnt, HaveOneResult, IsForcedCondition, IsForcedTest, IsLearningSound, learnt, started}
pub use Rattle.sf_dom.specs.laws.FactsLaws.{closed-consistent, constant-known, some-input}
pub use Rattle.sf_dom.specs.laws.LearningLaws.{told-by}
pub use Rattle.sf_dom.specs.laws.ThenLaws.{then-one}
pub use Rattle.sf_piece.specs.Execution.{AfterTruthValue, CanLearn, Computes, EndsAs, Gets, GetsOperand, GoesOn, GoesOnFor, HasQuery, HasStep, IsAtHand, IsBelow, IsEmptied, IsFirst, IsGiven, IsInTree, IsNamedOn, IsNodeAt, IsPutIn, IsSide, LeavesNeither, LeavesOnly, Loads, MakesOf, MovesTo, SplitsInto, code_at, piece_with, query, with_machine, with_sense}
pub use Rattle.sf_piece.specs.Machines.{after_return, first_machine, on, updated}
pub use Rattle.sf_piece.specs.Names.{spelled}
pub use Rattle.sf_piece.specs.Pieces.{HasNoMember, IsRightAnswer, IsRightSplit, IsRoot, IsTrulyNamed, PieceData, Split, StepData, is_prefix}
unfoldable pub use Rattle.sf_piece.specs.Pieces.{is_member}
pub use Rattle.sf_piece.specs.PlainPieces.{IsPlainPiece}
pub use Rattle.sf_piece.specs.Sizes.{IsSmall}
pub use Rattle.sf_piece.specs.SymbolicRun.{AreNodesBelow, HasTaken, InProgram, IsLawfulPiece, IsPending, IsPiece, IsPieceOfTree, RouteFrom, RunsOn, StandsAt, concrete_state, met_of, number_from}
pub use Rattle.sf_piece.specs.Works.{AreChildFacts, AreFailing, Asks, AsksTest, GoesBy, GoesTo, HasAtHand, HasGoneFor, HasGoneOn, HasGrown, IsAPropagatedBack, IsCarriedOut, IsCodeAtHand, IsContinuation, IsDecision, IsExecuted, IsFailing, IsForeseen, IsForetold, IsNever, IsOperand, IsOperandNumber, IsOver, IsPushed, IsQuery, IsRightDecision, IsSmallStep, IsTestedNumber, NextIs, PassesAlways, ReturnsNow, Sets, behind_chain, divided, work_left}
pub use Rattle.sf_piece.specs.declared.deciding.Decision.{Decision}
pub use Rattle.sf_piece.specs.declared.deciding.Decision.TheVariants.{Implied, Neither}
pub use Rattle.sf_piece.specs.declared.deciding.SmallStep.{SmallStep}
pub use Rattle.sf_piece.specs.declared.deciding.SmallStep.TheVariants.{Empty, On, Settled}
pub use Rattle.sf_run.specs.Machine.{Outcome, Progress, State, bits, goes, insn_progress, met_by, operand_of, outcome_from, return_of, returns, start, step, stuck, test_progress, trace_of, with_a}
unfoldable pub use Rattle.sf_run.specs.Machine.{outcome_of, run_for}
pub use Rattle.sf_run.specs.Reachable.{IsReachable, put}
pub use Rattle.sf_run.specs.Routes.{AreWays, IsRoute, IsWay, IsWholeRoute, MayMeet, goes_on, returns_at}
pub use Rattle.sf_run.specs.laws.AnswerLaws.{answer_more, answer_none}
pub use Rattle.sf_run.specs.laws.CompletionLaws.{some_way}
pub use Rattle.sf_run.specs.laws.RouteLaws.{route_is_short}
pub use Rattle.sf_run.specs.laws.RunLaws.{ends_from, lawful_ends, load_is_set, option_map_some, run_ends, run_more, run_same, safe_next, safe_start, step_is}
pub use Rattle.sf_run.specs.laws.TraceLaws.{may_go, newest_first}
pub use Rattle.sf_sym.specs.Pool.{ArePlainNodes, Extends, IsCondBelow, IsPool, OperandsBelow, folded_node, is_met, node_at, node_value, same, value_of, values_of}
pub use Rattle.sf_sym.specs.laws.SizeLaws.{value-small}
pub use Rattle.sf_sym.specs.laws.ValueLaws.{value-constant, value-older}
