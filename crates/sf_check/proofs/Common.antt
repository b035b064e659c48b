-- The names from elsewhere that the proofs of this crate cite, passed on from one place. Declares nothing.
pub use Rattle.std.proofs.Common.{Err, List, Ok, Result, Some, [], ap, arith, bit_and, bit_or, eq-eqb, get_or, inl, inr, length, length-set, ltb, map, min, refl, replicate, rules, set, slice_get, subst, suc, sym, take, zero, ℕ, ◌%◌, ◌*◌, ◌++◌, ◌+◌, ◌-◌, ◌<◌, ◌^◌, ◌∙◌, ◌∷◌, ◌≡◌, ◌≢◌, ◌≤◌, ◌⊎◌}
pub use Rattle.std.proofs.lemmas.Bool.{cases_eq, cases_lt, ltb-false, ltb-true}
pub use Rattle.std.proofs.lemmas.Bool.Decides.{nat_tests}
pub use Rattle.std.proofs.lemmas.Grind.{common_steps}
pub use Rattle.std.proofs.lemmas.List.{get_or-replicate, get_or-set_other, get_or-set_same, get_or_default, length-map, length-replicate, length_push, map_push, take_all, take_more}
pub use Rattle.std.proofs.lemmas.List.Elements.{All-push, Contains-append_left, Contains-push}
pub use Rattle.std.proofs.lemmas.List.Sorted.{All-permutation, Contains-permutation, IsNonDecreasingBy-from_sort, IsPartitionPoint-from_clause, IsPartitionedBy-ltb}
pub use Rattle.std.proofs.lemmas.Nat.Bits.{bit_at-lt, bit_at-zero, bit_at_and, bit_at_ones, bit_at_set_other, bit_at_set_same}
pub use Rattle.std.proofs.lemmas.Option.{get_or_from_slice_get, gets, same_Some, slice_get-get_or, slice_get_read, slice_get_within}
pub use Rattle.std.specs.Int.{bit_at, w16}
pub use Rattle.std.specs.List.Sorted.{IsNonDecreasing, IsPartitionPoint, IsPermutation}
pub use Rattle.std.specs.Prelude.{All, Any, Contains, slice_index, sum_by}
pub use Rattle.sf_check.specs.Common.{AreInsns, BadField, Fault, Insn, RawInsn, UnknownCode, Unreadable, spelling}
pub use Rattle.sf_check.specs.Codes.{insn_of}
pub use Rattle.sf_check.specs.EqualTests.{AreChains, AreSkipped, AreTestKeys, AsksFor, IsEqualTest, IsInChain, IsTestKey, LeadInside, LeadsOn, test_key}
pub use Rattle.sf_check.specs.Insns.{IsInRange, loaded_by, stored_by, successors, targets}
pub use Rattle.sf_check.specs.Joining.{AreJoined, AreOwn, IsReached}
pub use Rattle.sf_check.specs.Masks.{narrowed_masks}
pub use Rattle.sf_check.specs.Programs.{AllBelow, EndsInReturn, IsAt, IsLawfulProgram, IsPath, IsSetAt, IsUnsetAt, Leads, Spells, SpellsProgram, Stores}
pub use Rattle.sf_check.specs.Refusals.{AreFineBefore, IsFine, IsFirstFault}
pub use Rattle.sf_check.specs.Stacks.{path_length}
pub use Rattle.sf_check.specs.declared.fault.Fault.TheVariants.{Code, Empty, Field, Jump, Last, Scratch, TooLong}
pub use Rattle.sf_check.specs.laws.ContainsLaws.{any_cons, any_here, any_nil, any_there, contains_cons, contains_here, contains_nil, contains_there}
pub use Rattle.sf_check.specs.laws.PathLengthLaws.{path_length-sum}
pub use Rattle.sf_check.specs.laws.ProgramLaws.{successor_after, successors_inside}
pub use Rattle.sf_insn.specs.laws.WordLaws.{count_of_one_bit, one_bit_counted}
