-- The names from elsewhere that the proofs of this crate cite, passed on from one place. Declares nothing.
pub use Rattle.std.proofs.Common.{Bool, IsTrue, List, [], ap, arith, cond, drop, eq-eqb, eqb, false, get_or, inl, inr, length, max, min, not, pow-suc, refl, set, subst, suc, sym, take, true, zero, ℕ, ◌%◌, ◌*◌, ◌++◌, ◌+◌, ◌-◌, ◌/◌, ◌<◌, ◌^◌, ◌↔◌, ◌∙◌, ◌∷◌, ◌≡◌, ◌≢◌, ◌≤◌, ◌⊎◌}
pub use Rattle.std.proofs.Math.Nat.{div-eq_of_lt, div-le_self, div-mul-le_self, mul-le-mul_right}
pub use Rattle.std.proofs.Math.Pow.{pow-lt, pow_mono}
pub use Rattle.std.proofs.Math.Seq.{take-append_seam}
pub use Rattle.std.proofs.lemmas.Bool.{and_parts, cases_eq, cases_lt, eqb-true, false≢true, ne_eqb}
pub use Rattle.std.proofs.lemmas.Bool.Decides.{Decides-eqb, nat_tests}
pub use Rattle.std.proofs.lemmas.Grind.{common_steps, get_or_default_zero}
pub use Rattle.std.proofs.lemmas.List.{append-nil, drop_more, ext_get_or, get_or-map, get_or-set_other, get_or-set_same, get_or-take, get_or_append_left, get_or_default, get_or_push, get_or_read, length-append, length-map, length-set, length-take, length-take-le, length_push, map-append, map-set, set-get_or, take-append-drop, take-append-le, take_all, take_more}
pub use Rattle.std.proofs.lemmas.List.Elements.{All-cons, All-contains, All-head, All-nil, All-tail, Contains-append_cases, Contains-append_left, Contains-append_right, Contains-push_cases}
pub use Rattle.std.proofs.lemmas.List.Sorted.{Contains-permutation, IsNonDecreasingBy-from_default, IsNonDecreasingBy-from_sort, IsNonDecreasingBy-insert, IsPermutation-insert, IsPermutation-sym, searched}
pub use Rattle.std.proofs.lemmas.Nat.{and_comm, and_le_l, and_le_r, and_mod, and_or_self, and_shr, le-div, le_or_l, le_or_r, leading_length, mul-le, or_comm, or_disjoint, or_lt, or_mod, or_shr, pow_pos, shr-shr, shr_split, xor_comm, xor_lt, xor_shr}
pub use Rattle.std.proofs.lemmas.Nat.Bits.{and_pow, bit_at-lt, bit_at-pow_other, bit_at-pow_same, bit_at-suc, bit_at-trailing_zeros, bit_at-zero, bit_at_above, bit_at_and, bit_at_cat_high, bit_at_cat_low, bit_at_lowest, bit_at_mask_below, bit_at_mask_inside, bit_at_not, bit_at_ones_above, bit_at_or, bit_at_xor, ones_shl, ones_shr, same_from_bits, same_from_bits_below}
pub use Rattle.std.proofs.lemmas.Option.{IfSome_then}
pub use Rattle.std.specs.Int.Bits.{and_lt, or_add_and}
pub use Rattle.std.specs.Int.Count.{count_leading_zeros}
pub use Rattle.std.specs.List.{insert}
pub use Rattle.std.specs.List.Sorted.{IsBinarySearchResult, IsSorted}
pub use Rattle.std.specs.Ordering.{nat_cmp}
pub use Rattle.std.specs.Prelude.{All, Contains, Err, IfOk, IfSome, MatchBool, MatchOption, None, Ok, Option, Result, Some, bit_and, bit_or, bit_xor, if◌then◌else◌, replicate, slice_index, ◌&&◌, ◌==◌}
pub use Rattle.std.specs.Result.{result_ok}
pub use Rattle.sf_dom.specs.Common.{Add, And, AnyBit, Bin, BinOp, Cond, Const, Div, Equal, Input, IsInput, IsOneBit, Known, Lsh, Mul, Neg, Node, NodeId, Number, Or, Pair, Rsh, Slot, Sub, Test, Variable, Word, Xor, apply, arc_slice_items, arc_value, bit_at, negation_of, passes, trailing_zeros, w32}
pub use Rattle.sf_dom.specs.Ascending.{AreAscending, set_of, shared_items}
pub use Rattle.sf_dom.specs.Backward.{IsPropagatedBack}
pub use Rattle.sf_dom.specs.Facts.{AgreesWith, AreFacts, ConfinesWord, Covers, DecidesTest, FactsView, HasIn, HasMasked, IsPlainCondition, IsPlainTest, IsWordOrConst, KeepsInputs, KeepsOnly, LiesIn, NoInput, NoneAgrees, TakesIn, excluded_of, known_at, numbers_at}
unfoldable pub use Rattle.sf_dom.specs.Facts.{Agrees}
pub use Rattle.sf_dom.specs.GoingBack.{GoingBackGives, GoingBackGivesIn, WritingGives, gained, with_bits}
pub use Rattle.sf_dom.specs.Known.{Admits, AreBitsOf, Has, HasBits, IsConsistent, IsDecided, IsNarrower, Leaves, is_decided, known_of}
pub use Rattle.sf_dom.specs.Learning.{AreBuiltBy, AreExcludedBy, AreLeft, CantBeBuilt, CantGrow, CantLearn, CantTakeInBy, ConditionGives, Excludes, GrowsBy, LearnAll, LearnsBy, MetGives, MoreGives, SpreadingGives, StartsBy, TakesInBy, assumed_of, with_pair}
pub use Rattle.sf_dom.specs.Nodes.{AreKept, IsLaidOut, NodesView, known_by, places_of, slot_at, slot_known}
pub use Rattle.sf_dom.specs.Passes.{AreClosed, AreFixed, AreTakenIn, IsAtRest, IsFixedAt, IsPass, IsPassedAt, IsStill, IsVariableAt, PassFails, PassGives, TakingInFails, TakingInGives, are_all_decided, variables_after, variables_to}
pub use Rattle.sf_dom.specs.Propagation.{AddsNumber, AllMet, AllNarrower, AreClosedWords, AreConsistent, AreConsistentOperands, AreExcluded, AreFactsOf, IsNarrowed, Learns, Meets, TestGives}
pub use Rattle.sf_dom.specs.Reduction.{AreApart, IsLeadingMask, freedom}
pub use Rattle.sf_dom.specs.Rules.{HasNone, IsClosed, IsClosedAt, IsClosedWord, IsReduction, IsWidest, ReductionGives, Then, between, forward_node, full, masked, met, moved_left, moved_right, none_of, nothing, number_known, past, some_of, where_decided}
unfoldable pub use Rattle.sf_dom.specs.Rules.{assumed, forward_known, forward_negated}
pub use Rattle.sf_dom.specs.SoundRules.{AreCarried, AreDecidedOperands, IsForcedCondition, IsForcedTest, KeepsDecided, condition, grown, learnt, started}
pub use Rattle.sf_dom.specs.Telling.{IsForcedBy, IsOpen}
pub use Rattle.sf_dom.specs.Variables.{set_known, variable_at}
pub use Rattle.sf_dom.specs.laws.FactsLaws.{agreeing-word, bit_at-complement, closed-consistent, constant-admits, constant-known, covers-facts, decided-admits, narrower-admits, none-has, sampled, some-input, some-such, value-word, words-agree}
pub use Rattle.sf_dom.specs.laws.ThenLaws.{then-one, then-same}
pub use Rattle.sf_sym.specs.Operands.{IsSwappable, constant_operand_of, one_constant}
pub use Rattle.sf_sym.specs.Pool.{ArePlainNodes, Extends, IsCondBelow, IsPool, OperandsBelow, constant_number, node_at, node_value, value_of, values_of}
pub use Rattle.sf_sym.specs.laws.SizeLaws.{value-small}
pub use Rattle.sf_sym.specs.laws.ValueLaws.{IsPool-push, OperandsBelow-at, constant_number-is, met-passes, passes-met, value-constant, value-node, value-older, word-place}
