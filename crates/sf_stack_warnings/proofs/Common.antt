-- The names from elsewhere that the proofs of this crate cite, passed on from one place. Declares nothing.
pub use Rattle.std.proofs.Common.{Bool, List, Some, [], ap, arith, false, inl, inr, length, not, refl, rules, slice_get, subst, sym, take, true, ℕ, ◌&&◌, ◌++◌, ◌+◌, ◌<◌, ◌∙◌, ◌∷◌, ◌≡◌, ◌≢◌, ◌⊎◌}
pub use Rattle.std.proofs.lemmas.Bool.{cases_Bool, cases_lt, false≢true}
pub use Rattle.std.proofs.lemmas.Cmp.{nat_cmp_total}
pub use Rattle.std.proofs.lemmas.Grind.{common_steps}
pub use Rattle.std.proofs.lemmas.List.{nil_from_length}
pub use Rattle.std.proofs.lemmas.List.Elements.{All-contains, All-nil, All-push, All-weaker, AllZip-push, Contains-append_left, Contains-get_or, Contains-push, Contains-push_cases}
pub use Rattle.std.proofs.lemmas.List.Folds.{list_all_at, list_all_more}
pub use Rattle.std.proofs.lemmas.List.Quantifiers.{all_pairs_push}
pub use Rattle.std.proofs.lemmas.Map.Lookups.{exact_unsigned}
pub use Rattle.std.proofs.lemmas.Map.Views.{btree_set_contains_iff}
pub use Rattle.std.proofs.lemmas.Option.{get_or_from_slice_get, same_Some, slice_get_within}
pub use Rattle.std.specs.BTreeSet.{BTreeSet, Updates, contains}
pub use Rattle.std.specs.List.{list_all}
pub use Rattle.std.specs.Ordering.{nat_cmp}
pub use Rattle.std.specs.Prelude.{Contains, IsTrue, MatchBool, slice_index, ◌↔◌}
pub use Rattle.sf_ask.specs.laws.MemberLaws.{in_some_region}
pub use Rattle.sf_book.specs.Books.{BookData, IsRightRegion, IsSettled, RegionData}
pub use Rattle.sf_check.specs.Stacks.{IsPlain}
pub use Rattle.sf_insn.specs.Inputs.{IsInput}
pub use Rattle.sf_insn.specs.declared.input.Input.{Input}
pub use Rattle.sf_piece.specs.Pieces.{is_member}
pub use Rattle.sf_run.specs.Answers.{Answers}
pub use Rattle.sf_run.specs.Machine.{returns_of}
pub use Rattle.sf_run.specs.declared.action.Answer.{Answer}
pub use Rattle.sf_run.specs.laws.AnswerLaws.{one}
pub use Rattle.sf_stack_warnings.specs.Adding.{AreAddedBefore, HaveSame, IsAddedOnce, IsOtherwiseAt}
pub use Rattle.sf_stack_warnings.specs.Passing.{LetsNoneThrough, may_let_through}
pub use Rattle.sf_stack_warnings.specs.ZeroErrors.{AreZeroErrors, IsZeroErrorAt, zero_error}
