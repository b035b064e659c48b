-- The names from elsewhere that the proofs of this crate cite, passed on from one place. Declares nothing.
pub use Rattle.std.proofs.Common.{Bool, List, None, Option, Some, [], add-zero, ap, append_assoc, arith, cond, false, get_or, inl, inr, is_lt, length, length-append, map, not, refl, rules, subst, suc, sum_by, sym, true, zero, ℕ, ⊎_elim, ◌*◌, ◌++◌, ◌+◌, ◌<◌, ◌==◌, ◌∙◌, ◌∷◌, ◌≡◌, ◌≢◌, ◌≤◌, ◌⊎◌}
pub use Rattle.std.proofs.lemmas.Bool.{cases_eq}
pub use Rattle.std.proofs.lemmas.Bool.Decides.{nat_tests}
pub use Rattle.std.proofs.lemmas.Grind.{common_steps}
pub use Rattle.std.proofs.lemmas.List.{append-nil, get_or_push, length-map, map-append, map-id}
pub use Rattle.std.proofs.lemmas.List.Elements.{All-append, All-cons, All-filter, All-from_recursion, All-head, All-map, All-nil, All-tail, Contains-append_cases, filter-append, recursion_from_All}
pub use Rattle.std.proofs.lemmas.List.Folds.{find_at}
pub use Rattle.std.proofs.lemmas.List.Sorted.{All-permutation, IsPermutation-cons, IsPermutation-refl, IsPermutation-remove, IsPermutation-sym, IsPermutation-trans, answers_always, length_permutation, ranks_by, sum_by-IsPermutation}
pub use Rattle.std.proofs.lemmas.List.Sums.{sum_by-append, sum_by-cons}
pub use Rattle.std.proofs.lemmas.Map.{keys-set_value, lookup-none, lookup-set_value}
pub use Rattle.std.proofs.lemmas.Map.Entries.{lookup_from_place, none_below_head, none_past_head}
pub use Rattle.std.proofs.lemmas.Map.Keys.{IsDistinct-from_sorted, sorted_head, sorted_tail}
pub use Rattle.std.proofs.lemmas.Map.Made.{keys_of-map_values, lookup-map_values, map_same_pairs}
pub use Rattle.std.proofs.lemmas.Option.{get_or_from_slice_get, same_Some, slice_get-get_or, slice_get_within}
pub use Rattle.std.proofs.lemmas.Result.{IfOk-weaker}
pub use Rattle.std.proofs.lemmas.Simd.{map-map}
pub use Rattle.std.specs.Arc.{arc_value}
pub use Rattle.std.specs.BTreeMap.{insert_entry, is_at}
pub use Rattle.std.specs.Cmp.{IsEquivalence, eq_by_cmp_equiv, nat_cmp_total}
pub use Rattle.std.specs.List.{All, AllByRecursion, Contains, filter, find, remove, slice_get}
unfoldable pub use Rattle.std.specs.List.Sorted.{IsStrictlySortedBy}
pub use Rattle.std.specs.Map.{keys_of, lookup, remove_entry, set_value, values_of}
pub use Rattle.std.specs.Option.{option_map, option_map_or, unwrap_or}
pub use Rattle.std.specs.Ordering.{bool_cmp, eq_by_cmp, is_eq, match_ordering, nat_cmp}
pub use Rattle.std.specs.Prelude.{Err, IfErr, Ok, Result}
pub use Rattle.sf_book.specs.Common.{Answer, AreInNameOrder, Equal, Fault, Greater, Input, Insn, IsInput, IsLawfulStack, IsPermutation, IsPlain, LeaseState, Less, Memory, Ordering, slice_cmp, trace_of}
pub use Rattle.sf_book.specs.Books.{BookData, HasRisingIds, IsKeptBook, IsLawfulBook, IsNoBeginning, IsOutstanding, IsRightRegion, IsSettled, OutstandingData, RegionData, count_beginnings, fresh, members_of}
pub use Rattle.sf_book.specs.Changes.{CommitsAs, IsBefore, IsFirstFree, MayCommit, Refuses, outstanding_at, with_lease, with_lease_at, without}
pub use Rattle.sf_book.specs.OutstandingMaps.{AreMatchingMaps, LeasesFirst, lease_state_of, name_cmp, name_total, outstanding_list, outstanding_of, piece_at}
pub use Rattle.sf_book.specs.PlainBooks.{IsBook, IsPlainWhereStackIs}
pub use Rattle.sf_book.specs.PrefixCounts.{bit, prefix_bit}
pub use Rattle.sf_book.specs.Unfoldings.{Emptied, Fork, HaveOneOutcome, IsFringe, IsPieceOf, IsRegionOf, IsUnfolding, Outstanding, Region, Unfolding, emptied_in, forks_in, outstanding_in, regions_in, top_of}
pub use Rattle.sf_book.specs.laws.ChangesLaws.{all_at}
pub use Rattle.sf_book.specs.laws.ExactLaws.{at_place, enough, left_unworked, one_for_each_trace, worked_off}
pub use Rattle.sf_book.specs.laws.NameOrderLaws.{strictly_in_order}
pub use Rattle.sf_book.specs.laws.PartitionLaws.{no_second, prefix-refl, some_there, sum_by-map}
pub use Rattle.sf_book.specs.laws.PlainLaws.{plain_fresh, plain_has_members, plain_marks, plain_permuted, region_plain}
pub use Rattle.sf_piece.specs.Execution.{HasStep, IsFirst, IsInTree}
pub use Rattle.sf_piece.specs.OneExecution.{IsExecutionOne}
pub use Rattle.sf_piece.specs.Pieces.{Empty, IsRightAnswer, IsRightSplit, IsRightStep, IsRightWork, IsRoot, IsTrulyNamed, PieceData, Settled, Split, StepData, WorkData, is_member, is_prefix}
pub use Rattle.sf_piece.specs.PlainPieces.{IsPlainPiece, IsPlainStep, IsPlainWork}
pub use Rattle.sf_piece.specs.Steps.{name_after, step_data}
pub use Rattle.sf_piece.specs.declared.work.Step.{Step}
pub use Rattle.sf_run.specs.laws.FeasibleLaws.{before_one_way, names_exact, names_total}
