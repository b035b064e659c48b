-- The names from elsewhere that the proofs of this crate cite, passed on from one place. Declares nothing.
pub use Rattle.std.proofs.Common.{Bool, Err, IfOk, IsErrAnd, List, MatchBool, MatchResult, Ok, Result, Some, [], add-one, ap, arith, below_more, bit_and, bit_or, drop, eq-eqb, false, get_or, inl, inr, leb, length, ltb, map, min, not, refl, rules, set, subst, suc, sym, take, true, true≢false, vec_len, w64, zero, ℕ, ◌%◌, ◌*◌, ◌++◌, ◌+◌, ◌-◌, ◌/◌, ◌<◌, ◌^◌, ◌∙◌, ◌∷◌, ◌≡◌, ◌≤◌, ◌⊎◌}
pub use Rattle.std.proofs.lemmas.Bool.{and_parts, cases_eq, cases_lt, eqb-true, leb-false, ltb-true}
pub use Rattle.std.proofs.lemmas.Bool.Decides.{nat_tests}
pub use Rattle.std.proofs.lemmas.Grind.{common_steps}
pub use Rattle.std.proofs.lemmas.List.{ext_get_or, get_or-drop, get_or-set_other, get_or-set_same, get_or-take, length-drop, length-map, length-take-le, take_all}
pub use Rattle.std.proofs.lemmas.List.Elements.{All-contains, All-more, All-push, Contains-append_left, Contains-get_or, Contains-push}
pub use Rattle.std.proofs.lemmas.List.Folds.{list_all_at, list_all_more}
pub use Rattle.std.proofs.lemmas.List.FromFn.{get_or-map-range_with_len, length-map-range_with_len}
pub use Rattle.std.proofs.lemmas.List.Sorted.{All-permutation, Contains-permutation, IsNonDecreasingBy-from_sort_by_key, IsPartitionPoint-from_clause, IsPartitionedBy-leb, IsPartitionedBy-ltb}
pub use Rattle.std.proofs.lemmas.Nat.Bits.{bit_at-zero, bit_at_and, bit_at_set_other, bit_at_set_same}
pub use Rattle.std.proofs.lemmas.Option.{get_or_from_slice_get, same_Some, slice_get_read, slice_get_within}
pub use Rattle.std.proofs.lemmas.Result.{IfOk-at_ok, IfOk-weaker, err_from_is_err_and}
pub use Rattle.std.specs.Int.Bits.{and_zero_r}
pub use Rattle.std.specs.List.{list_all, range_with_len}
pub use Rattle.std.specs.List.Sorted.{IsPartitionPoint}
pub use Rattle.std.specs.Prelude.{All, Contains, IsPermutation, MatchOption, None, Option, if◌then◌else◌, slice_get, slice_index, slice_range, ◌==◌}
pub use Rattle.std.specs.Vec.{vec_capacity}
pub use Rattle.sf_ask.specs.Common.{Action, Allowed, CantTakeInBy, Clear, Doubt, Hit, Input, IsExecutionOne, IsInQuestion, IsInput, IsNumberOf, IsPlain, Known, Never, Node, PieceData, Probe, QuestionData, Reply, TakesInBy, Unsettled, Verdict, bit_at, has_action, is_whole, mask_at, range_at}
pub use Rattle.sf_ask.specs.Judging.{CantTakeInQuestion, FindsInQuestion, HasNoHitAt, HasReply, HasVerdict, HasVerdictAt, IsTriedBy, TakeInMask, TakeInRange, TakeInWord}
unfoldable pub use Rattle.sf_ask.specs.Judging.{TakeInBefore}
pub use Rattle.sf_ask.specs.OneResult.{HaveOneVerdict, IsWholeFringe}
pub use Rattle.sf_ask.specs.Probing.{AreProbes, HasProbe, IsProbeIn, IsRuledOut, LeaveNone, has_one_call}
unfoldable pub use Rattle.sf_ask.specs.Probing.{IsRuledOutIfAsked}
pub use Rattle.sf_ask.specs.QuestionBits.{bit_of, has_bit}
pub use Rattle.sf_ask.specs.Searches.{CantTakeInMask, CantTakeInWord, HasMaskBits, IsInBefore, IsInWordRange, IsOutside, IsRightSearch}
pub use Rattle.sf_ask.specs.Sheets.{IsRightOn, IsRightWhereGiven, clear_if_wanted, first_verdicts, is_clear_or_skipped, is_skipped, verdict_at}
pub use Rattle.sf_ask.specs.Trying.{IsLeastInput, IsNumberBefore}
pub use Rattle.sf_ask.specs.Verdicts.{IsBreakAt, IsDecisive, IsLowInput, IsMemberAt, IsRightVerdict, TellsTriedAt}
pub use Rattle.sf_ask.specs.laws.OneResultLaws.{one_verdict_at}
pub use Rattle.sf_ask.specs.laws.QuestionBitsLaws.{all-bits}
pub use Rattle.sf_book.specs.Books.{BookData, IsRightRegion, RegionData}
pub use Rattle.sf_book.specs.Unfoldings.{ExplorationsHaveOneResult, IsFringe}
pub use Rattle.sf_dom.specs.Facts.{AreConfined, AreNarrower, ConfinesWord, Covers, FactsView, HasIn, KeepsOnly, LiesIn, NoInput, known_at}
unfoldable pub use Rattle.sf_dom.specs.Facts.{Agrees}
pub use Rattle.sf_dom.specs.GoingBack.{WritingGives}
pub use Rattle.sf_dom.specs.Known.{Admits}
pub use Rattle.sf_dom.specs.Passes.{IsPass, PassGives}
pub use Rattle.sf_dom.specs.Rules.{IsReduction, ReductionGives, between, forward_node, masked, met}
pub use Rattle.sf_dom.specs.SoundRules.{HaveOneResult}
pub use Rattle.sf_dom.specs.laws.FactsLaws.{agreeing-word, low-left, narrower-admits, some-input, some-such, words-agree}
pub use Rattle.sf_dom.specs.laws.LearningLaws.{confined-by, masked-by}
unfoldable pub use Rattle.sf_piece.specs.Pieces.{is_member}
pub use Rattle.sf_piece.specs.PlainPieces.{IsPlainPiece}
pub use Rattle.sf_question.specs.declared.fault.Fault.{Fault}
pub use Rattle.sf_run.specs.laws.AnswerLaws.{one}
pub use Rattle.sf_sym.specs.Pool.{ArePlainNodes, IsPool, is_met, is_met_by, node_at}
pub use Rattle.sf_sym.specs.declared.pool.Cond.{Cond}
pub use mathlib.Core.Logic.{dite}
pub use native.Mathlib.Decide.{ℕ_discrete}
