-- The names from elsewhere that the proofs of this crate cite, passed on from one place. Declares nothing.
pub use Rattle.std.proofs.Common.{Bool, Err, Global, IfErr, IsErrAnd, List, MatchResult, Ok, Result, Some, Vec, [], ap, append_assoc, arith, drop, false, get_or, inl, inr, length, length-append, map, refl, rules, set, slice_get, subst, suc, sym, take, take-append-drop, true, zero, ℕ, ◌%◌, ◌*◌, ◌++◌, ◌+◌, ◌-◌, ◌<◌, ◌==◌, ◌∙◌, ◌∷◌, ◌≡◌, ◌≢◌, ◌≤◌, ◌⊎◌}
pub use Rattle.std.proofs.KnownBytes.{Appends-trans}
pub use Rattle.std.proofs.Math.ListN.{drop_of_length-le}
pub use Rattle.std.proofs.lemmas.Bool.{cases_eq, cases_lt}
pub use Rattle.std.proofs.lemmas.Grind.{common_steps}
pub use Rattle.std.proofs.lemmas.List.{append-nil, get_or-map, get_or-set_other, get_or-set_same, length-map, length-set, take_all, take_more, take_rest}
pub use Rattle.std.proofs.lemmas.Option.{same_Some, slice_get-get_or, slice_get_read, slice_get_within}
pub use Rattle.std.proofs.lemmas.Result.{err_from_is_err_and}
pub use Rattle.std.specs.Io.KnownBytes.{Appends}
pub use Rattle.std.specs.Prelude.{Contains}
pub use Rattle.sf_check.specs.Codes.{insn_of}
pub use Rattle.sf_check.specs.Insns.{successors}
pub use Rattle.sf_check.specs.Programs.{AllBelow, IsAt, IsLawfulProgram, IsPath, Leads, Spells, SpellsProgram}
pub use Rattle.sf_check.specs.Refusals.{IsFirstFault}
pub use Rattle.sf_check.specs.Stacks.{path_length}
pub use Rattle.sf_check.specs.declared.insn.Insn.{Insn}
pub use Rattle.sf_check.specs.declared.stack.Stack.{Stack}
pub use Rattle.sf_check.specs.laws.ContainsLaws.{contains_cons, contains_nil}
pub use Rattle.sf_check.specs.laws.ProgramLaws.{successor_after, successors_inside}
pub use Rattle.sf_insn.specs.Spelling.{AreInsns, spelling}
pub use Rattle.sf_insn.specs.declared.raw.RawInsn.{RawInsn}
pub use Rattle.sf_stack.specs.Equal.{AreSame}
pub use Rattle.sf_stack.specs.FaultPlaces.{check_fault}
pub use Rattle.sf_stack.specs.Filters.{AreFew, IsFileRefusal, IsFirstRefusal, IsRefusalOf, SpellLongPath, SpellPrograms, SpellStack, SpellsFault}
pub use Rattle.sf_stack.specs.Reaching.{AreReached, IsOnSomePath, with_found}
pub use Rattle.sf_stack.specs.declared.fault.Fault.{Fault}
pub use Rattle.sf_stack.specs.laws.FiltersLaws.{as_many}
